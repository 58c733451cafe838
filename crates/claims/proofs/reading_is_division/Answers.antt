-- `claims::reading_is_division` meets its contract, which is the claim itself.
use Rattle.claims.proofs.Verdict.{reading}
use Rattle.claims.proofs.reading_is_division.Goals as goal

pub returns : goal.returns
returns c = reading
