-- `judging::error_is_first_cause` meets its contract: it is the claim itself.
use Rattle.judging.proofs.Caused.{caused}
use Rattle.judging.proofs.error_is_first_cause.Goals as goal

pub returns : goal.returns
returns c = caused
