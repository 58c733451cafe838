-- `claims::checking_lists_breaches` meets its contract, which is the claim itself.
use Rattle.claims.proofs.Checking.{checking}
use Rattle.claims.proofs.checking_lists_breaches.Goals as goal

pub returns : goal.returns
returns c = checking
