-- `pool_breaches::sight::Sight::mark` meets its contract.
use mathlib.Core.Path.{refl}
use native.Mathlib.Omega.{arith}
use Rattle.pool_breaches.proofs.Sighting.{marked-sighted}
use Rattle.pool_breaches.proofs.sight.Sight.mark.Goals as goal

pub returns-then-self : goal.returns-then-self
returns-then-self c =
    let r = c.requires in
    (c.if-self.true, marked-sighted c.args.element.now c.args.self.now (r.marked c.if-self.true) c.if-self.true r.room r.again_room r.endless_room)

pub mark_all-requires : goal.mark_all-requires
mark_all-requires c =
    let blank = c.requires.blank c.if-self.false in
    (blank.0, blank.1, c.requires.again_room, c.requires.endless_room)

pub returns : goal.returns
returns c =
    let r = c.requires in
    (refl, marked-sighted c.args.element.now _ c.mark_all.ensures refl r.room (omega (arith, r.again_room, c.mark_all.auto.again)) (omega (arith, r.endless_room, c.mark_all.auto.endless)))
