-- `rules::breaches_are_listed` meets its contract, which is the claim itself.
use Rattle.rules.proofs.Listing.{breaches-listed}
use Rattle.rules.proofs.breaches_are_listed.Goals as goal

pub returns : goal.returns
returns c p es = breaches-listed p es
