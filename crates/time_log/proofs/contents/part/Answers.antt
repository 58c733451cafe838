-- `time_log::contents::part` meets its contract: the mark says whether the field is present.
use Rattle.std.proofs.Common.{◌≡◌, sym, arith}
use Rattle.wire.proofs.Width.{positive}
use Rattle.time_log.specs.Layout.{width, part_width}
use Rattle.time_log.proofs.Parts.{width_small, unmarked, marked, part-there}
use Rattle.time_log.proofs.Numbers.{read-part, absent}
use Rattle.time_log.proofs.contents.part.Goals as goal

pub returns-then-places-k-eq0 : goal.returns-then-places-k-eq0
returns-then-places-k-eq0 c =
    let a = c.args in
    (absent a.places.now.layout a.k a.bytes.now (unmarked a.places.now.layout a.k c.if-places-k-eq0.true), positive (width a.k))

pub number-requires : goal.number-requires
number-requires c =
    let a = c.args in
    let e : part_width a.places.now.layout a.k ≡ width a.k = marked a.places.now.layout a.k c.if-places-k-eq0.false in
    (omega (arith, width_small a.k), omega (arith, e, part-there a.places.now.layout a.k c.requires.0, a.places.now.placed a.k (omega arith), c.requires.1))

pub returns : goal.returns
returns c =
    let a = c.args in
    let e : part_width a.places.now.layout a.k ≡ width a.k = marked a.places.now.layout a.k c.if-places-k-eq0.false in
    (read-part a.places.now.layout a.k (width a.k) _ a.bytes.now _ (sym e) (a.places.now.placed a.k (omega arith)) c.number.ensures.0, c.number.ensures.1)
