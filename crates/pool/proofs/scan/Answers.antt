-- `pool::scan` meets its contract: the rest of the walk gives the answer of the whole walk, and the records listed and those
use mathlib.Core.Path.{refl, sym, ◌∙◌}
use Prim.Native.Nat.{◌<◌}
use native.Mathlib.Omega.{arith}
use lib.ListN.{length, length-set}
use Rattle.std.specs.Prelude.{Err}
use Rattle.records.proofs.Range.{extent-ends}
use Rattle.records.specs.Answer.{extent_answer}
use Rattle.pool.specs.Reading.{scan_of}
use Rattle.pool.proofs.Steps.{flaw-number, advance, stopped, finished}
use Rattle.pool.proofs.Listing.{listing_start, listing-more, listing-end, listing-refused}
use Rattle.pool.proofs.scan.Goals as goal

pub loop-at-init : goal.loop-at-init
unfolding scan_of
loop-at-init c = let a = c.args in (omega arith, omega arith, record { turns = length a.p.now; enough = omega arith; answers = refl }, refl, listing_start a.p.now a.starts.now)

pub loop-at-smaller : goal.loop-at-smaller
loop-at-smaller c =
    let r = extent-ends c.args.p.now c.loop-at.at _ (sym c.record_extent.ensures.0 ∙ c.in-Ok.is) in
    omega (arith, r, c.loop-at-test.true)

pub loop-at-preserved : goal.loop-at-preserved
loop-at-preserved c =
    let s = c in
    let p = s.args.p.now in
    let l = c.loop-at in
    let x = sym c.record_extent.ensures.0 ∙ c.in-Ok.is in
    let r = extent-ends p l.at _ x in
    let t = c.loop-at-test.true in
    let room : l.n < length l.starts = omega (arith, l.invariant.0, l.invariant.1, l.invariant.3, s.requires.1) in
    (r.1, omega (arith, r, l.invariant.1), advance p _ l.at l.n t _ x l.invariant.2, length-set l.starts l.n l.at ∙ l.invariant.3, listing-more p l.starts l.at l.n _ t room x l.invariant.4)

pub returns-in-Err : goal.returns-in-Err
returns-in-Err c =
    let p = c.args.p.now in
    let l = c.loop-at in
    let told = extent_answer l.at (Err c.in-Err.flaw) in
    let a = stopped p _ l.at l.n c.loop-at-test.true _ told (sym c.record_extent.ensures.0 ∙ c.in-Err.is) (λ rest. refl) l.invariant.2 in
    (c.refused.ensures ∙ a, listing-refused told.number told.value (flaw-number l.at c.in-Err.flaw) p l.starts a)

pub returns : goal.returns
returns c =
    let s = c in
    let l = c.loop-at in
    let room : l.n < length l.starts = omega (arith, l.invariant.0, l.invariant.1, l.invariant.3, s.requires.1) in
    (finished s.args.p.now _ l.at l.n c.loop-at-test.false l.invariant.2, listing-end s.args.p.now l.starts l.at l.n c.loop-at-test.false room l.invariant.4)
