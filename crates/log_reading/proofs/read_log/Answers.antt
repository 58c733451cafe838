-- `log_reading::read_log` meets its contract: the walk over the bytes that are left gives the answer of the whole walk.
use Rattle.std.proofs.Common.{◌≡◌, ℕ, ◌+◌, ◌-◌, ◌≤◌, ◌<◌, List, length, take, drop, sym, ◌∙◌, arith, length-drop}
use native.Mathlib.Nat.{sub-zero, sub_self}
use lib.Seq.{take_all}
use borrow.Author.Tests.{lt-ltb, le-ltb, eqb-true, eqb-false}
use Rattle.std.proofs.lemmas.Result.{err_from_is_err_and}
use Rattle.time_log.specs.Contents.{values_counted, extent_of}
use Rattle.time_log.specs.Judging.{record_refusal}
use Rattle.time_log.proofs.Parts.{count_inside}
use Rattle.time_log.proofs.Refusals.{refusal_some}
use Rattle.log_reading.specs.Logs.{walk, log_of}
use Rattle.log_reading.proofs.Prefix.{granted}
use Rattle.log_reading.proofs.Walks.{walk_end, walk-on, walk-stop}
use Rattle.log_reading.proofs.read_log.Goals as goal

-- the bytes from a place on, as a part to the end
abbrev rest : List ℕ → ℕ → List ℕ
rest s w = take (length s - w) (drop w s)

tail : (s : List ℕ) (w : ℕ) → rest s w ≡ drop w s
tail s w = let n = length-drop w s in take_all (length s - w) (drop w s) (omega (arith, n))

-- a record that is not refused has bytes, and they are there
module _ (layout logged w : ℕ) (s : List ℕ) (read : record_refusal layout logged s ≡ 0) (extent : w ≡ extent_of layout s) where
  there : (0 < w) × (w ≤ length s)
  there =
      let g = granted layout logged s read in
      (omega (arith, extent, count_inside layout (values_counted layout s)), omega (arith, extent, g.whole))

  less : length (rest s w) < length s
  less = let n = length-drop w s in rw (tail s w) (omega (arith, n, there))

  inside : (b : List ℕ) → length s ≤ length b → length (rest s w) ≤ length b
  inside b h = omega (arith, less)

  counted : (b : List ℕ) (n : ℕ) → length s ≤ length b → n ≤ length b - length s → n + 1 ≤ length b - length (rest s w)
  counted b n h k = omega (arith, less, k)

  walked : (b : List ℕ) (n : ℕ) → length s ≤ length b → n ≤ length b - length s
      → walk layout logged (length b - (n + 1)) (length b - length (rest s w)) (n + 1) (rest s w) ≡ walk layout logged (length b - n) (length b - length s) n s
  walked b n h k =
      let m = length-drop w s in
      let t : length b - length (drop w s) ≡ length b - length s + w = omega (arith, m, there, h) in
      let d : length b - n - 1 ≡ length b - (n + 1) = omega arith in
      rw (tail s w, t, extent, ← d) (walk-on layout logged (length b - n) (length b - length s) n s (omega (arith, k, there, h)) (omega (arith, there)) read)

pub returns-in_err-judge_layout : goal.returns-in_err-judge_layout
unfolding log_of
returns-in_err-judge_layout c =
    let p = err_from_is_err_and c.from_residual.result c.from_residual.ensures.1 in
    rw (p.1, p.2, c.in_err-judge_layout.ensures.1, lt-ltb _ _ c.in_err-judge_layout.ensures.0)

pub records-init : goal.records-init
unfolding log_of
records-init c =
    record {
      inside = omega arith;
      counted = omega arith;
      walked = rw (le-ltb _ _ c.in_ok-judge_layout.ensures, sub-zero, sub_self);
    }

pub slice_bounds-rest-count : goal.slice_bounds-rest-count
slice_bounds-rest-count c =
    let a = c.args in
    (there a.layout a.logged c.in-Ok.length c.records.rest.now (sym (rw c.places_of-places.ensures at c.in-Ok.ensures.number)) (rw c.places_of-places.ensures at c.in-Ok.ensures.extent)).1

pub slice_bounds-rest-start : goal.slice_bounds-rest-start
slice_bounds-rest-start c =
    let a = c.args in
    (there a.layout a.logged c.in-Ok.length c.records.rest.now (sym (rw c.places_of-places.ensures at c.in-Ok.ensures.number)) (rw c.places_of-places.ensures at c.in-Ok.ensures.extent)).1

pub returns-in-Err : goal.returns-in-Err
returns-in-Err c =
    let a = c.args in
    let l = c.records in
    let d = eqb-false (length l.rest.now) 0 (sym c.records-test.ensures) in
    let some : 0 < length l.rest.now = omega (arith, d) in
    walk-stop a.layout a.logged (length a.bytes.now - l.count) (length a.bytes.now - length l.rest.now) l.count l.rest.now _ (omega (arith, some, l.invariant.inside, l.invariant.counted)) some
    (rw c.places_of-places.ensures at c.in-Err.ensures.number) (refusal_some c.in-Err.refusal)
    ∙ l.invariant.walked

pub records-smaller : goal.records-smaller
records-smaller c =
    let a = c.args in
    less a.layout a.logged c.in-Ok.length c.records.rest.now (sym (rw c.places_of-places.ensures at c.in-Ok.ensures.number)) (rw c.places_of-places.ensures at c.in-Ok.ensures.extent)

pub records-preserved : goal.records-preserved
records-preserved c =
    let a = c.args in
    let l = c.records in
    let read : record_refusal a.layout a.logged l.rest.now ≡ 0 = sym (rw c.places_of-places.ensures at c.in-Ok.ensures.number) in
    let extent : c.in-Ok.length ≡ extent_of a.layout l.rest.now = rw c.places_of-places.ensures at c.in-Ok.ensures.extent in
    record {
      inside = inside a.layout a.logged c.in-Ok.length l.rest.now read extent a.bytes.now l.invariant.inside;
      counted = counted a.layout a.logged c.in-Ok.length l.rest.now read extent a.bytes.now l.count l.invariant.inside l.invariant.counted;
      walked = walked a.layout a.logged c.in-Ok.length l.rest.now read extent a.bytes.now l.count l.invariant.inside l.invariant.counted ∙ l.invariant.walked;
    }

pub returns : goal.returns
returns c =
    let a = c.args in
    let l = c.records in
    walk_end a.layout a.logged (length a.bytes.now - l.count) (length a.bytes.now - length l.rest.now) l.count l.rest.now (eqb-true (length l.rest.now) 0 (sym c.records-test.ensures)) ∙ l.invariant.walked
