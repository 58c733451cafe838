-- `pool_breaches::sight::Sight::judge` meets its contract.
use mathlib.Core.Path.{refl, ◌∙◌}
use native.Mathlib.Omega.{arith}
use Rattle.pool_breaches.proofs.Sighting.{plain, usual-low, usual-repeats, usual-circles, usual-sighted, marked-repeats, marked-circles}
use Rattle.pool_breaches.proofs.sight.Sight.judge.Goals as goal

pub note-requires : goal.note-requires
note-requires c = usual-low c.args.element.now c.args.self.now c.requires c.is_unusual-unusual.result c.is_unusual-unusual.ensures c.if-not-self-unusual.true

pub returns-then-not-self-unusual : goal.returns-then-not-self-unusual
returns-then-not-self-unusual c =
    let e = c.args.element.now in
    let s = c.args.self.now in
    let unusual = c.is_unusual-unusual.result in
    let is = c.is_unusual-unusual.ensures in
    let none = c.if-not-self-unusual.true in (
      c.note.ensures.0 ∙ usual-repeats e s c.requires unusual is none,
      usual-circles e s c.requires unusual is none,
      usual-sighted e s c.requires unusual is none _ (plain e s c.requires unusual is none).0 refl refl c.note.ensures.1 c.note.ensures.2,
    )

pub marks_of-requires : goal.marks_of-requires
marks_of-requires c =
    let e = c.args.element.now in
    let sighted = c.mark.ensures.1 in
    (omega (arith, e.listed, sighted.again_room), omega (arith, e.listed, sighted.endless_room))

pub returns : goal.returns
returns c =
    let e = c.args.element.now in
    let s = c.mark.new.self in
    let sighted = c.mark.ensures.1 in
    let marked = sighted.marked c.mark.ensures.0 in
    (c.marks_of.ensures.0 ∙ marked-repeats e s marked, c.marks_of.ensures.1 ∙ marked-circles e s marked, sighted)
