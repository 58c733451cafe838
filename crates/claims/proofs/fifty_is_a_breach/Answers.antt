-- `claims::fifty_is_a_breach` meets its contract, which is the claim itself.
use Rattle.claims.proofs.Displayed.{fifty-is-a-breach}
use Rattle.claims.proofs.fifty_is_a_breach.Goals as goal

pub returns : goal.returns
returns c = fifty-is-a-breach
