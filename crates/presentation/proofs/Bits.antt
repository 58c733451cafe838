-- The bits that the logic's rounding gives for a multiple of the least step of an f64: those of the nearest f64. Assumes nothing.
use mathlib.Core.Path.{◌≡◌, refl, sym, ap, subst, ◌∙◌}
use mathlib.Core.Logic.{⊎_elim}
use mathlib.Core.Bool.{Bool, cond}
use Prim.Native.Nat.{ℕ, suc, ◌+◌, ◌-◌, ◌*◌, ◌/◌, ◌%◌, ◌^◌, ◌≤◌, ◌<◌, compare}
use native.Mathlib.Nat.{mul-div_cancel, mul-pos, mul_assoc, le_trans, le_of_eq, lt_of_lt_of_le, lt_of_le_of_lt, lt_of_not-le, not-le_of_lt, eq-or-lt_of_le, eq-zero-or-pos, mul-lt-mul_of_pos_right, mul-le-mul_right, mul-le-mul, pow-suc, add_assoc, le-div_iff_mul-le}
use native.Mathlib.Omega.{arith}
use lib.Dec.{lit<, lit≤}
use lib.Pow.{pow_pos, pow-add, pow_mono}
use lib.Ieee.{Float, nan, inf, fin, binary64, up, down, size, units, round, to_bits}
use lib.Ieee.Digits.{size-lt, size-le, size_reaches}
use lib.Ieee.Fits.{round_is, down_pos, kept-lt, nearest-le}
use lib.Ieee.Exact.{HasValue, units_val}
use lib.Ieee.Nearest.{closest, closest_same, nearest-ge}
use Rattle.presentation.specs.Rounding.{NearestBits}
use Rattle.presentation.proofs.Multiple.{nearest-multiple}

-- how many digits of n are over 53, and what is kept of it without them
abbrev pub dropped : ℕ → ℕ
dropped n = size n - 53

abbrev pub kept : ℕ → ℕ
kept n = closest n (2 ^ dropped n)

-- the bits of a number that 53 digits hold: the exponent's field, and the digits in its last place and below
abbrev bits_of : ℕ → ℕ
bits_of w = dropped w * 2 ^ 52 + w / 2 ^ dropped w

as-units : (s : Bool) (n : ℕ) → round binary64 s n (2 ^ 1074) ≡ units binary64 s (kept n) (dropped n)
as-units s n =
    let l = 2 ^ 1074 in
    let k = dropped n in
    round_is binary64 s n l
    ∙ ap (λ (w : ℕ). units binary64 s (closest (n * l) (l * 2 ^ dropped w)) (dropped w)) (mul-div_cancel n (pow_pos 1074))
    ∙ ap (λ (q : ℕ). units binary64 s q k) (closest_same (n * l) (l * 2 ^ k) n (2 ^ k) (mul-pos (pow_pos 1074) (pow_pos k)) (pow_pos k) (mul_assoc n l (2 ^ k)))

by_value : (x : Float) (s : Bool) (w : ℕ) → HasValue x s w (2 ^ 1074) → to_bits binary64 x ≡ cond s (2 ^ 63) 0 + bits_of w
unfolding to_bits
by_value nan s w h = absurd h
by_value (inf t) s w h = absurd h
by_value (fin t m e) s w h =
    let steps : m * up e * 2 ^ 1074 / down e ≡ w = ap (λ (z : ℕ). z / down e) h.1 ∙ mul-div_cancel w (down_pos e) in
    add_assoc (cond t (2 ^ 63) 0) _ _
    ∙ ap (λ (z : ℕ). cond t (2 ^ 63) 0 + bits_of z) steps
    ∙ ap (λ (b : Bool). cond b (2 ^ 63) 0 + bits_of w) h.0

-- ---- how many digits are dropped
size_above : (n j : ℕ) → 2 ^ j ≤ n → j < size n
size_above n j h = lt_of_not-le (λ (g : size n ≤ j). not-le_of_lt (lt_of_lt_of_le (size-lt n) (pow_mono g)) h)

drops : (w k : ℕ) → w < 2 ^ (53 + k) → (0 < k → 2 ^ (52 + k) ≤ w) → dropped w ≡ k
drops w k h g =
    let a : size w ≤ 53 + k = size-le w (53 + k) h in
    ⊎_elim (λ (z : k ≡ 0). omega arith) (λ (z : 0 < k). omega (arith, size_above w (52 + k) (g z))) (eq-zero-or-pos k)

-- ---- what is kept of n
module _ (n : ℕ) where
  enough : n < 2 ^ (53 + dropped n)
  enough = lt_of_lt_of_le (size-lt n) (pow_mono (omega arith))

  needed : 0 < dropped n → 2 ^ (52 + dropped n) ≤ n
  needed h = size_reaches n (52 + dropped n) (omega arith)

  most : kept n ≤ 2 ^ 53
  most = le_trans (nearest-le (n / 2 ^ dropped n) (compare (n % 2 ^ dropped n * 2) (2 ^ dropped n))) (kept-lt 53 n)

  least : 0 < dropped n → 2 ^ 52 ≤ kept n
  least h =
      le_trans ((le-div_iff_mul-le (pow_pos (dropped n))).1 (le_trans (le_of_eq (sym (pow-add 2 52 (dropped n)))) (needed h)))
      (nearest-ge (n / 2 ^ dropped n) (compare (n % 2 ^ dropped n * 2) (2 ^ dropped n)))

  finite : n < 2 ^ 1134 → kept n * 2 ^ dropped n < 2 ^ 2098
  finite h =
      let k : dropped n ≤ 1081 = omega (arith, size-le n 1134 h) in
      lt_of_le_of_lt (mul-le-mul most (pow_mono {i = dropped n} {j = 1081} k)) (lit< tt)

-- ---- its bits: the leading one of 53 digits is added to the exponent's field, and so is that of 2 ^ 53, which has a digit more
digits-packed : (q k : ℕ) → q < 2 ^ 53 → (0 < k → 2 ^ 52 ≤ q) → bits_of (q * 2 ^ k) ≡ k * 2 ^ 52 + q
digits-packed q k h g =
    let below : q * 2 ^ k < 2 ^ (53 + k) = rw (pow-add 2 53 k) (mul-lt-mul_of_pos_right h (pow_pos k)) in
    let above : (0 < k → 2 ^ (52 + k) ≤ q * 2 ^ k) = λ (z : 0 < k). rw (pow-add 2 52 k) (mul-le-mul_right (2 ^ k) (g z)) in
    rw (drops (q * 2 ^ k) k below above, mul-div_cancel q (pow_pos k))

packed : (q k : ℕ) → q ≤ 2 ^ 53 → (0 < k → 2 ^ 52 ≤ q) → bits_of (q * 2 ^ k) ≡ k * 2 ^ 52 + q
packed q k h g = ⊎_elim carried (λ (l : q < 2 ^ 53). digits-packed q k l g) (eq-or-lt_of_le h)
  where
    carried : q ≡ 2 ^ 53 → bits_of (q * 2 ^ k) ≡ k * 2 ^ 52 + q
    carried e =
        let w : q * 2 ^ k ≡ 2 ^ 52 * 2 ^ suc k = rw e (omega (arith, pow-suc 2 k)) in
        let p : bits_of (2 ^ 52 * 2 ^ suc k) ≡ suc k * 2 ^ 52 + 2 ^ 52 = digits-packed (2 ^ 52) (suc k) (lit< tt) (λ (z : 0 < suc k). lit≤ tt) in
        ap bits_of w ∙ p ∙ omega arith

pub rounded-bits : (s : Bool) (n : ℕ) → n < 2 ^ 1134
    → to_bits binary64 (round binary64 s n (2 ^ 1074)) ≡ cond s (2 ^ 63) 0 + (dropped n * 2 ^ 52 + kept n)
rounded-bits s n h =
    let w = kept n * 2 ^ dropped n in
    let v : HasValue (round binary64 s n (2 ^ 1074)) s w (2 ^ 1074) =
    subst (λ (x : Float). HasValue x s w (2 ^ 1074)) (sym (as-units s n)) (units_val binary64 s (kept n) (dropped n) (finite n h)) in
    by_value (round binary64 s n (2 ^ 1074)) s w v
    ∙ ap (λ (b : ℕ). cond s (2 ^ 63) 0 + b) (packed (kept n) (dropped n) (most n) (least n))

pub nearest-bits : (n : ℕ) → NearestBits n (dropped n * 2 ^ 52 + kept n)
nearest-bits n =
    record {
      dropped = dropped n;
      kept = kept n;
      enough = enough n;
      needed = needed n;
      nearest = nearest-multiple n (2 ^ dropped n) (pow_pos (dropped n));
      fields = refl;
    }
