-- `cases::worked_listings_hold` meets its contract, by computation.
use Rattle.cases.proofs.Listed.{listed}
use Rattle.cases.proofs.worked_listings_hold.Goals as goal

pub returns : goal.returns
returns c = listed
