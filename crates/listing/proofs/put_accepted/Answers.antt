-- `listing::put_accepted` meets its contract.
use Rattle.listing.specs.Lines.{accepted_line}
use Rattle.listing.proofs.put_accepted.Goals as goal

pub returns : goal.returns
unfolding accepted_line
returns c = c.put_bytes.ensures
