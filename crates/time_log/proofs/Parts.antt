-- Widths and places of the optional fields. Assumes nothing.
use mathlib.Core.Path.{◌≡◌, refl, ap, ◌∙◌}
use mathlib.Core.List.{List}
use mathlib.Core.Logic.{◌⊎◌, inl, inr}
use Prim.Native.Nat.{ℕ, zero, suc, ◌+◌, ◌*◌, ◌-◌, ◌≤◌, ◌<◌}
use native.Mathlib.Nat.{mod-lt, zero-lt-suc, zero-add, zero-mul, one-mul}
use native.Mathlib.Numerals.{add-one}
use native.Mathlib.Omega.{arith}
use borrow.Author.Tests.{eqb-true, eqb-false}
use lib.Dec.{eqb}
use lib.ListN.{length, get_or, set}
use Rattle.std.proofs.Common.{get_or-set_same, get_or-set_other}
use Rattle.wire.proofs.Either.{by-case}
use Rattle.time_log.specs.Layout.{mark, width, part_width, place_of, record_length}

pub width_small : (k : ℕ) → width k ≤ 4
width_small zero = omega arith
width_small (suc zero) = omega arith
width_small (suc (suc zero)) = omega arith
width_small (suc (suc (suc zero))) = omega arith
width_small (suc (suc (suc (suc zero)))) = omega arith
width_small (suc (suc (suc (suc (suc zero))))) = omega arith
width_small (suc (suc (suc (suc (suc (suc zero)))))) = omega arith
width_small (suc (suc (suc (suc (suc (suc (suc zero))))))) = omega arith
width_small (suc (suc (suc (suc (suc (suc (suc (suc zero)))))))) = omega arith
width_small (suc (suc (suc (suc (suc (suc (suc (suc (suc k))))))))) = omega arith

-- a bit times a width is nothing or the width
pub bit-times : (b w : ℕ) → b < 2 → (b * w ≡ 0) ⊎ (b * w ≡ w)
bit-times zero w h = inl (zero-mul w)
bit-times (suc zero) w h = inr (one-mul w)
bit-times (suc (suc b)) w h = absurd (omega (arith, h))

pub part-is : (layout k : ℕ) → (part_width layout k ≡ 0) ⊎ (part_width layout k ≡ width k)
unfolding part_width
part-is layout k = bit-times (mark layout k) (width k) (mod-lt _ (zero-lt-suc 1))

part-narrow : (layout k : ℕ) → part_width layout k ≤ width k
part-narrow layout k = go (part-is layout k)
  where
    go : (part_width layout k ≡ 0) ⊎ (part_width layout k ≡ width k) → part_width layout k ≤ width k
    go (inl e) = omega (arith, e)
    go (inr e) = omega (arith, e)

pub place-small : (layout k : ℕ) → place_of layout k ≤ 6 + 4 * k
unfolding place_of
place-small layout zero = omega arith
place-small layout (suc k) = omega (arith, place-small layout k, part-narrow layout k, width_small k)

pub first-place : (layout : ℕ) → 6 ≡ place_of layout 0
unfolding place_of
first-place layout = refl

-- a part without its mark has no bytes, and with it those of its width, which are some
pub unmarked : (layout k : ℕ) → mark layout k ≡ 0 → part_width layout k ≡ 0
unfolding part_width
unmarked layout k e = rw e (zero-mul (width k))

pub marked : (layout k : ℕ) → (mark layout k ≡ 0 → ⊥) → part_width layout k ≡ width k
unfolding part_width
marked layout k d = go (mark layout k) (mod-lt _ (zero-lt-suc 1)) d
  where
    go : (b : ℕ) → b < 2 → (b ≡ 0 → ⊥) → b * width k ≡ width k
    go zero h n = absurd (n refl)
    go (suc zero) h n = one-mul (width k)
    go (suc (suc b)) h n = absurd (omega (arith, h))

pub width_some : (k : ℕ) → k ≤ 8 → 0 < width k
width_some zero h = omega arith
width_some (suc zero) h = omega arith
width_some (suc (suc zero)) h = omega arith
width_some (suc (suc (suc zero))) h = omega arith
width_some (suc (suc (suc (suc zero)))) h = omega arith
width_some (suc (suc (suc (suc (suc zero))))) h = omega arith
width_some (suc (suc (suc (suc (suc (suc zero)))))) h = omega arith
width_some (suc (suc (suc (suc (suc (suc (suc zero))))))) h = omega arith
width_some (suc (suc (suc (suc (suc (suc (suc (suc zero)))))))) h = omega arith
width_some (suc (suc (suc (suc (suc (suc (suc (suc (suc k))))))))) h = absurd (omega (arith, h))

-- places rise from 6 on
pub place-large : (layout k : ℕ) → 6 ≤ place_of layout k
unfolding place_of
place-large layout zero = omega arith
place-large layout (suc k) = omega (arith, place-large layout k)

pub places-rise : (layout k j : ℕ) → place_of layout k ≤ place_of layout (j + k)
unfolding place_of
places-rise layout k zero = rw (zero-add k) (omega arith)
places-rise layout k (suc j) = let e : suc j + k ≡ suc (j + k) = omega arith in rw e (omega (arith, places-rise layout k j))

pub part-inside : (layout k j : ℕ) → place_of layout k + part_width layout k ≤ place_of layout (j + suc k)
unfolding place_of
part-inside layout k j = places-rise layout (suc k) j

pub part-there : (layout k : ℕ) → k ≤ 8 → place_of layout k + part_width layout k ≤ place_of layout 9
part-there layout k h = let e : 8 - k + suc k ≡ 9 = omega arith in rw e at (part-inside layout k (8 - k))

-- the count byte is inside the record
pub count_inside : (layout n : ℕ) → place_of layout 9 < record_length layout n
unfolding record_length
count_inside layout n = omega arith

pub place-next : (layout k : ℕ) → place_of layout k + mark layout k * width k ≡ place_of layout (k + 1)
unfolding place_of part_width
place-next layout k = rw add-one

-- one more place, after those that are there
pub place-set : (layout k : ℕ) (starts : List ℕ) → k + 1 < length starts → ((j : ℕ) → j ≤ k → get_or starts j 0 ≡ place_of layout j)
    → (j : ℕ) → j ≤ k + 1 → get_or (set starts (k + 1) (get_or starts k 0 + mark layout k * width k)) j 0 ≡ place_of layout j
place-set layout k starts h f j g =
    by-case (eqb j (k + 1))
    (λ t.
    let e : j ≡ k + 1 = eqb-true j (k + 1) t in
    rw e (get_or-set_same starts (k + 1) (get_or starts k 0 + mark layout k * width k) 0 h ∙ ap (λ (n : ℕ). n + mark layout k * width k) (f k (omega arith)) ∙ place-next layout k))
    (λ t.
    let d = eqb-false j (k + 1) t in
    get_or-set_other starts (k + 1) j (get_or starts k 0 + mark layout k * width k) 0 d ∙ f j (omega (arith, d)))
