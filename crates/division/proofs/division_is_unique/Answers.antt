-- `division::division_is_unique` meets its contract, which is the claim itself.
use Rattle.division.proofs.Unique.{unique}
use Rattle.division.proofs.division_is_unique.Goals as goal

pub returns : goal.returns
returns c = unique
