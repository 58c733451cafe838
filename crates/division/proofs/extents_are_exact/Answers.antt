-- `division::extents_are_exact` meets its contract, which is the claim itself.
use Rattle.division.proofs.Exact.{exactly}
use Rattle.division.proofs.extents_are_exact.Goals as goal

pub returns : goal.returns
returns c = exactly
