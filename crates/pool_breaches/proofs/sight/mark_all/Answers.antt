-- `pool_breaches::sight::mark_all` meets its contract.
use Rattle.pool_breaches.proofs.sight.mark_all.Goals as goal

pub returns : goal.returns
returns c = record { repeating = c.mark_repeats.ensures; circling = c.mark_endless.ensures }
