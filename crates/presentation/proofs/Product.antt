-- The product of the sum and the scale, by its bits. Assumes nothing.
use mathlib.Core.Path.{◌≡◌, refl, sym, ap, ◌∙◌}
use mathlib.Core.Bool.{Bool, true, false, not, cond}
use Prim.Native.Nat.{ℕ, suc, ◌+◌, ◌-◌, ◌*◌, ◌/◌, ◌%◌, ◌^◌, ◌≤◌, ◌<◌}
use native.Mathlib.Nat.{mul_assoc, mul-pos, mul-mul-mul_comm, one-mul, mod-eq_of_lt, le_of_lt, lt_of_le_of_lt, mul-le-mul}
use native.Mathlib.Omega.{arith}
use borrow.Author.Tests.{lt-leb, ne_eqb}
use lib.Dec.{T, lit<}
use lib.IntN.{ℤ, pos, negsuc, nat_abs}
use lib.Signed.{mag, non_neg}
use lib.Pow.{pow_pos, pow-add, pow_mono}
use lib.Ieee.{Float, nan, inf, fin, Format, binary32, binary64, up, down, fits, to_bits, of_bits, of_fields, of_int, round, mul, unlike}
use lib.Ieee.Bits.{of_bits-to_bits}
use lib.Ieee.Fits.{down_pos}
use lib.Ieee.Exact.{HasValue, odd_sign}
use lib.Ieee.Back.{round_whole}
use lib.Ieee.Scale.{round_same}
use Rattle.presentation.specs.Rounding.{ProductBits, exact_product}
use Rattle.presentation.proofs.Bits.{dropped, kept, rounded-bits, nearest-bits}

-- a product by any two fractions that the factors equal
product-of : (f : Format) (x y : Float) (s t : Bool) (a c b d : ℕ) → 0 < c → 0 < d → HasValue x s a c → HasValue y t b d → mul f x y ≡ round f (unlike s t) (a * b) (c * d)
unfolding mul
product-of f nan y s t a c b d C D h k = absurd h
product-of f (inf s') y s t a c b d C D h k = absurd h
product-of f (fin s' m e) nan s t a c b d C D h k = absurd k
product-of f (fin s' m e) (inf t') s t a c b d C D h k = absurd k
product-of f (fin s' m e) (fin t' n g) s t a c b d C D h k =
    rw (← h.0, ← k.0)
    (round_same f (unlike s' t') (m * up e * (n * up g)) (down e * down g) (a * b) (c * d) (mul-pos (down_pos e) (down_pos g)) (mul-pos C D)
    (mul-mul-mul_comm (m * up e) (n * up g) c d ∙ ap (λ (z : ℕ). z * (n * up g * d)) h.1 ∙ ap (λ (z : ℕ). a * down e * z) k.1 ∙ mul-mul-mul_comm a (down e) b (down g)))

-- the sum is held exactly
sum-value : (z : ℤ) → mag z < 2 ^ 32 → HasValue (of_int binary64 z) (not (non_neg z)) (nat_abs z) 1
unfolding of_int
sum-value (pos n) h = round_whole binary64 false n (omega arith)
sum-value (negsuc n) h = round_whole binary64 true (suc n) (omega arith)

-- a normal f32 above 0 by its bits, of which the exponent's field is suc e
scale-value : (b e : ℕ) → b / 2 ^ 23 ≡ suc e → suc e < 255 → HasValue (of_bits binary32 b) false ((2 ^ 23 + b % 2 ^ 23) * 2 ^ e) (2 ^ 149)
unfolding of_bits of_fields
scale-value b e h l =
    let u : b < 2 ^ 31 = omega arith in
    rw (lt-leb (2 ^ 31) b u, mod-eq_of_lt u, h, ne_eqb (suc e) 255 (λ (x : suc e ≡ 255). omega arith))
    (odd_sign 24 false (2 ^ 23 + b % 2 ^ 23) e 149)

unlike-false : (s : Bool) → unlike s false ≡ s
unlike-false true = refl
unlike-false false = refl

regroup : (z m p a c : ℕ) → z * (m * p) * (a * c) ≡ z * (m * (p * a)) * c
regroup z m p a c = simp mul_assoc

-- the product, in the least steps of an f64
in-steps : (z : ℤ) (b e : ℕ) → mag z < 2 ^ 32 → b / 2 ^ 23 ≡ suc e → suc e < 255
    → mul binary64 (of_int binary64 z) (of_bits binary32 b) ≡ round binary64 (not (non_neg z)) (exact_product z b) (2 ^ 1074)
in-steps z b e h g l =
    let s = not (non_neg z) in
    let m = 2 ^ 23 + b % 2 ^ 23 in
    let n = nat_abs z * (m * 2 ^ e) in
    let field : b / 2 ^ 23 + 924 ≡ e + 925 = omega arith in
    product-of binary64 (of_int binary64 z) (of_bits binary32 b) s false (nat_abs z) 1 (m * 2 ^ e) (2 ^ 149) (lit< tt) (pow_pos 149) (sum-value z h) (scale-value b e g l)
    ∙ ap (λ (t : Bool). round binary64 t n (1 * 2 ^ 149)) (unlike-false s)
    ∙ round_same binary64 s n (1 * 2 ^ 149) (exact_product z b) (2 ^ 1074) (pow_pos 149) (pow_pos 1074)
    (rw (field, pow-add 2 e 925, one-mul (2 ^ 149)) (regroup (nat_abs z) m (2 ^ e) (2 ^ 925) (2 ^ 149)))

magnitude-most : (z : ℤ) (m : ℕ) → mag z < m → nat_abs z ≤ m
magnitude-most (pos n) m h = le_of_lt h
magnitude-most (negsuc n) m h = h

product-below : (z : ℤ) (b : ℕ) → mag z < 2 ^ 32 → b / 2 ^ 23 ≤ 153 → exact_product z b < 2 ^ 1134
product-below z b h g =
    let m : 2 ^ 23 + b % 2 ^ 23 ≤ 2 ^ 24 = omega arith in
    lt_of_le_of_lt (mul-le-mul (magnitude-most z (2 ^ 32) h) (mul-le-mul m (pow_mono {i = b / 2 ^ 23 + 924} {j = 1077} (omega arith)))) (lit< tt)

sign_bit : (b : Bool) → cond (not b) (2 ^ 63) 0 ≡ cond b 0 (2 ^ 63)
sign_bit true = refl
sign_bit false = refl

pub product-bits : (z : ℤ) (x : Float) → mag z < 2 ^ 32 → T (fits binary32 x) → 0x322BCC77 ≤ to_bits binary32 x → to_bits binary32 x ≤ 0x4CBEBC20
    → ProductBits z (to_bits binary32 x) (to_bits binary64 (mul binary64 (of_int binary64 z) x))
product-bits z x h f lo hi =
    let b = to_bits binary32 x in
    let n = exact_product z b in
    let e : b / 2 ^ 23 ≡ suc (b / 2 ^ 23 - 1) = omega arith in
    let r : mul binary64 (of_int binary64 z) x ≡ round binary64 (not (non_neg z)) n (2 ^ 1074) =
    ap (λ (y : Float). mul binary64 (of_int binary64 z) y) (sym (of_bits-to_bits binary32 x f)) ∙ in-steps z b (b / 2 ^ 23 - 1) h e (omega arith) in
    record {
      magnitude = dropped n * 2 ^ 52 + kept n;
      nearest = nearest-bits n;
      signed =
          ap (to_bits binary64) r
          ∙ rounded-bits (not (non_neg z)) n (product-below z b h (omega arith))
          ∙ ap (λ (t : ℕ). t + (dropped n * 2 ^ 52 + kept n)) (sign_bit (non_neg z));
    }
