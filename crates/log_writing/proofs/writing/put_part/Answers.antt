-- `log_writing::writing::put_part` meets its contract: the mark says whether anything is written.
use Rattle.std.proofs.Common.{◌≡◌, ℕ, sym, ap, ◌∙◌, arith}
use Rattle.std.proofs.lemmas.List.Edits.{sets}
use Rattle.wire.specs.Bytes.{bytes_of}
use Rattle.time_log.specs.Layout.{width, part_width, place_of}
use Rattle.time_log.proofs.Parts.{unmarked, marked, part-there}
use Rattle.log_writing.proofs.writing.put_part.Goals as goal

pub returns-then-places-k-eq0 : goal.returns-then-places-k-eq0
unfolding bytes_of
returns-then-places-k-eq0 c = rw (unmarked c.args.places.now.layout c.args.k c.if-places-k-eq0.true)

pub put-requires : goal.put-requires
put-requires c =
    let a = c.args in
    let e : part_width a.places.now.layout a.k ≡ width a.k = marked a.places.now.layout a.k c.if-places-k-eq0.false in
    omega (arith, e, part-there a.places.now.layout a.k c.requires.0, a.places.now.placed a.k (omega arith), c.requires.1)

pub returns : goal.returns
returns c =
    let a = c.args in
    let e : part_width a.places.now.layout a.k ≡ width a.k = marked a.places.now.layout a.k c.if-places-k-eq0.false in
    c.put.ensures
    ∙ ap (λ (n : ℕ). sets a.to.now n (bytes_of (width a.k) a.x)) (a.places.now.placed a.k (omega arith))
    ∙ ap (λ (n : ℕ). sets a.to.now (place_of a.places.now.layout a.k) (bytes_of n a.x)) (sym e)
