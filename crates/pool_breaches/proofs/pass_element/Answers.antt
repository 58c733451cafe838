-- `pool_breaches::pass_element` meets its contract: the element is that of record i.
use mathlib.Core.Path.{refl}
use Rattle.pool_breaches.proofs.Sighting.{sighted-seen}
use Rattle.pool_breaches.proofs.pass_element.Goals as goal

pub returns : goal.returns
returns c =
    let e = c.new-element.ensures in
    (rw (e.0, e.1) at c.put_element.ensures, sighted-seen c.args.names.now.records _ _ _ refl refl refl refl (rw (e.0, e.1) at c.judge-again.ensures.2))
