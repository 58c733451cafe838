-- The bits are unique: two bit patterns that are nearest to the same number are equal. Assumes nothing.
use mathlib.Core.Path.{◌≡◌, subst}
use mathlib.Core.Logic.{inl, inr}
use Prim.Native.Nat.{ℕ, suc, ◌+◌, ◌*◌, ◌%◌, ◌^◌, ◌≤◌, ◌<◌}
use native.Mathlib.Nat.{le_antisymm, le_of_suc-le-suc, lt_of_not-le, le_trans, not-le_of_lt, mul-le-mul_right, suc-mul}
use native.Mathlib.Omega.{arith}
use lib.IntN.{ℤ}
use lib.Pow.{pow_pos, pow_mono}
use Rattle.presentation.specs.Rounding.{NearestMultiple, NearestBits, ProductBits, exact_product}

neither-less : (a b : ℕ) → (a < b → ⊥) → (b < a → ⊥) → a ≡ b
neither-less a b h k = le_antisymm (at_most b a k) (at_most a b h)
  where
    at_most : (x y : ℕ) → (x < y → ⊥) → y ≤ x
    at_most x y g = le_of_suc-le-suc (lt_of_not-le g)

-- were a nearest multiple below another, both would be midway and so even, and two units apart
not-below : (n u q r : ℕ) → 0 < u → NearestMultiple n u q → NearestMultiple n u r → q < r → ⊥
not-below n u q r U a b l =
    let next : q * u + u ≤ r * u = subst (λ (x : ℕ). x ≤ r * u) (suc-mul q u) (mul-le-mul_right u l) in
    let even-q : q % 2 ≡ 0 = a.even (inr (omega (arith, a.high, b.low))) in
    let even-r : r % 2 ≡ 0 = b.even (inl (omega (arith, a.high, b.low))) in
    let two : suc (suc q) * u ≤ r * u = mul-le-mul_right u (omega arith) in
    omega (arith, two, suc-mul (suc q) u, suc-mul q u, a.high, b.low)

same-multiple : (n u q r : ℕ) → 0 < u → NearestMultiple n u q → NearestMultiple n u r → q ≡ r
same-multiple n u q r U a b = neither-less q r (not-below n u q r U a b) (not-below n u r q U b a)

-- nor are fewer digits dropped for the one than for the other
not-fewer : (n k j : ℕ) → n < 2 ^ (53 + k) → (0 < j → 2 ^ (52 + j) ≤ n) → k < j → ⊥
not-fewer n k j h g l = not-le_of_lt h (le_trans (pow_mono {i = 53 + k} {j = 52 + j} (omega arith)) (g (omega arith)))

pub nearest-unique : (n a b : ℕ) → NearestBits n a → NearestBits n b → a ≡ b
nearest-unique n a b x y =
    let k : x.dropped ≡ y.dropped =
    neither-less x.dropped y.dropped (not-fewer n x.dropped y.dropped x.enough y.needed) (not-fewer n y.dropped x.dropped y.enough x.needed) in
    let q : x.kept ≡ y.kept =
    same-multiple n (2 ^ y.dropped) x.kept y.kept (pow_pos y.dropped) (subst (λ (d : ℕ). NearestMultiple n (2 ^ d) x.kept) k x.nearest) y.nearest in
    rw (x.fields, y.fields, k, q)

pub product-unique : (z : ℤ) (scale a b : ℕ) → ProductBits z scale a → ProductBits z scale b → a ≡ b
product-unique z scale a b x y = rw (x.signed, y.signed, nearest-unique (exact_product z scale) x.magnitude y.magnitude x.nearest y.nearest)
