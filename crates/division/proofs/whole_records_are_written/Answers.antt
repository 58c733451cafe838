-- `division::whole_records_are_written` meets its contract, which is the claim itself.
use Rattle.division.proofs.Written.{whole-are-written}
use Rattle.division.proofs.whole_records_are_written.Goals as goal

pub returns : goal.returns
returns c = whole-are-written
