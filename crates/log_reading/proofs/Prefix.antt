-- Bytes after a record do not matter to it. Assumes nothing.
use mathlib.Core.Path.{◌≡◌, refl, ap, ◌∙◌}
use mathlib.Core.Bool.{Bool, true, false, cond}
use mathlib.Core.List.{List, ◌++◌}
use Prim.Native.Nat.{ℕ, zero, suc, ◌+◌, ◌*◌, ◌≤◌, ◌<◌}
use native.Mathlib.Omega.{arith}
use borrow.Author.Tests.{le-ltb, lt-leb, ltb-false, leb-false}
use lib.Dec.{ltb, leb}
use lib.ListN.{length, take, drop, length-append, length-drop, get_or-append}
use lib.Seq.{take-append-le, drop-append-le}
use Rattle.wire.specs.Bytes.{le_of, number_in}
use Rattle.time_log.specs.Layout.{part_width, place_of, record_length}
use Rattle.time_log.specs.Contents.{part_at, fields_at, values_counted, extent_of, spaced, signed_from, ordinals_at, values_at}
use Rattle.time_log.specs.Judging.{one_over, refusal_of_fields, record_refusal}
use Rattle.time_log.proofs.Parts.{place-large, part-inside}

-- what a record that is not refused is known by
pub record Granted (layout logged : ℕ) (s : List ℕ) : Type 0 where
  pub layout-small : layout ≤ 511
  pub counted : place_of layout 9 < length s
  pub whole : extent_of layout s ≤ length s
  pub fields : refusal_of_fields (fields_at layout s) (one_over logged (ordinals_at layout s)) ≡ 0

pub granted : (layout logged : ℕ) (s : List ℕ) → record_refusal layout logged s ≡ 0 → Granted layout logged s
unfolding record_refusal
granted layout logged s e =
    let g = go (ltb 511 layout) (leb (length s) (place_of layout 9)) (ltb (length s) (extent_of layout s)) (refusal_of_fields (fields_at layout s) (one_over logged (ordinals_at layout s))) e in
    record { layout-small = ltb-false 511 layout g.0; counted = leb-false (length s) (place_of layout 9) g.1; whole = ltb-false (length s) (extent_of layout s) g.2; fields = g.3 }
  where
    go : (a b d : Bool) (x : ℕ) → cond a 47 (cond b 40 (cond d 40 x)) ≡ 0 → (a ≡ false) × (b ≡ false) × (d ≡ false) × (x ≡ 0)
    go true b d x e = absurd (omega (arith, e))
    go false true d x e = absurd (omega (arith, e))
    go false false true x e = absurd (omega (arith, e))
    go false false false x e = (refl, refl, refl, e)

pub accepted : (layout logged : ℕ) (s : List ℕ) → Granted layout logged s → record_refusal layout logged s ≡ 0
unfolding record_refusal
accepted layout logged s g =
    rw (le-ltb 511 layout g.layout-small, lt-leb (length s) (place_of layout 9) g.counted, le-ltb (length s) (extent_of layout s) g.whole) g.fields

-- a number, bytes a step apart and signed numbers, all of them inside
pub number-inside : (w at : ℕ) (r t : List ℕ) → at + w ≤ length r → number_in w (r ++ t) at ≡ number_in w r at
unfolding number_in
number-inside w at r t h =
    let n = length-drop at r in
    ap le_of (ap (take w) (drop-append-le at r t (omega (arith, h))) ∙ take-append-le w (drop at r) t (omega (arith, h, n)))

pub spaced-inside : (n at : ℕ) (r t : List ℕ) → at + 5 * n ≤ length r → spaced 5 n (r ++ t) at ≡ spaced 5 n r at
unfolding spaced
spaced-inside zero at r t h = refl
spaced-inside (suc n) at r t h = rw (get_or-append r t 0 at (omega (arith, h)), spaced-inside n (at + 5) r t (omega (arith, h)))

pub signed-inside : (n at : ℕ) (r t : List ℕ) → at + 5 * n ≤ length r + 1 → signed_from n (r ++ t) at ≡ signed_from n r at
unfolding signed_from
signed-inside zero at r t h = refl
signed-inside (suc n) at r t h = rw (number-inside 4 at r t (omega (arith, h)), signed-inside n (at + 5) r t (omega (arith, h)))

module _ (layout : ℕ) (r t : List ℕ) (counted : place_of layout 9 < length r) where
  part_same : (k j : ℕ) → j + suc k ≡ 9 → part_at layout (r ++ t) k ≡ part_at layout r k
  unfolding part_at
  part_same k j e =
      number-inside (part_width layout k) (place_of layout k) r t (omega (arith, rw e at (part-inside layout k j), counted))

  pub fields-same : fields_at layout (r ++ t) ≡ fields_at layout r
  fields-same =
      let six = place-large layout 9 in
      rw (number-inside 4 0 r t (omega (arith, six, counted)), number-inside 2 4 r t (omega (arith, six, counted)), part_same 0 8 refl, part_same 1 7 refl, part_same 2 6 refl, part_same 3 5 refl, part_same 4 4 refl, part_same 5 3 refl, part_same 6 2 refl, part_same 7 1 refl, part_same 8 0 refl)

  pub count_same : values_counted layout (r ++ t) ≡ values_counted layout r
  count_same = get_or-append r t 0 (place_of layout 9) counted

  pub extent-same : extent_of layout (r ++ t) ≡ extent_of layout r
  extent-same = ap (record_length layout) count_same

  pub ordinals-same : extent_of layout r ≤ length r → ordinals_at layout (r ++ t) ≡ ordinals_at layout r
  unfolding record_length
  ordinals-same h = rw count_same (spaced-inside (values_counted layout r) (place_of layout 9 + 1) r t h)

  pub values_same : extent_of layout r ≤ length r → values_at layout (r ++ t) ≡ values_at layout r
  unfolding record_length
  values_same h = rw count_same (signed-inside (values_counted layout r) (place_of layout 9 + 2) r t (omega (arith, h)))

pub refusal-more : (layout logged : ℕ) (r t : List ℕ) → record_refusal layout logged r ≡ 0 → record_refusal layout logged (r ++ t) ≡ 0
refusal-more layout logged r t e =
    let g = granted layout logged r e in
    let n = length-append r t in
    accepted
    layout
    logged
    (r ++ t)
    (record { layout-small = g.layout-small; counted = omega (arith, g.counted, n); whole = rw (extent-same layout r t g.counted) (omega (arith, g.whole, n)); fields = rw (fields-same layout r t g.counted, ordinals-same layout r t g.counted g.whole) g.fields })

pub refusal-less : (layout logged : ℕ) (r t : List ℕ) → place_of layout 9 < length r → extent_of layout r ≤ length r → record_refusal layout logged (r ++ t) ≡ 0 → record_refusal layout logged r ≡ 0
refusal-less layout logged r t counted whole e =
    let g = granted layout logged (r ++ t) e in
    accepted
    layout
    logged
    r
    (record { layout-small = g.layout-small; counted = counted; whole = whole; fields = rw (fields-same layout r t counted, ordinals-same layout r t counted whole) at g.fields })
