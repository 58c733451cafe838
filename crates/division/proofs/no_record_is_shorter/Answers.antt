-- `division::no_record_is_shorter` meets its contract, which is the claim itself.
use Rattle.division.proofs.Unique.{shortest}
use Rattle.division.proofs.no_record_is_shorter.Goals as goal

pub returns : goal.returns
returns c = shortest
