-- Rounding to an f64, defined with whole numbers alone, without floats. Definitions only.
use Rattle.std.specs.Prelude.{ℕ, ◌+◌, ◌*◌, ◌/◌, ◌%◌, ◌^◌, ◌≤◌, ◌<◌, ◌≡◌, ◌⊎◌, cond, ℤ, nat_abs}
use Rattle.std.specs.Int.Signed.{non_neg}

-- q times u is the multiple of u nearest to n; if n is midway between two multiples, q is even
pub record NearestMultiple (n u q : ℕ) : Type 0 where
  pub low : 2 * (q * u) ≤ 2 * n + u
  pub high : 2 * n ≤ 2 * (q * u) + u
  pub even : (2 * (q * u) ≡ 2 * n + u) ⊎ (2 * n ≡ 2 * (q * u) + u) → q % 2 ≡ 0

-- The bits, sign clear, of the f64 nearest to n times 2 ^ -1074, the least step between two f64.
-- Only as many binary digits are dropped as leave at most 53. The exponent field counts them, and the leading 1 of 53 digits adds 1 to it.
pub record NearestBits (n bits : ℕ) : Type 0 where
  pub dropped : ℕ
  pub kept : ℕ
  pub enough : n < 2 ^ (53 + dropped)
  pub needed : 0 < dropped → 2 ^ (52 + dropped) ≤ n
  pub nearest : NearestMultiple n (2 ^ dropped) kept
  pub fields : bits ≡ dropped * 2 ^ 52 + kept

-- |z| times a normal f32 above 0, given by its bits, in steps of 2 ^ -1074: with exponent field e it is its 24 digits times 2 ^ (e - 150).
abbrev pub exact_product : ℤ → ℕ → ℕ
exact_product z scale = nat_abs z * ((2 ^ 23 + scale % 2 ^ 23) * 2 ^ (scale / 2 ^ 23 + 924))

-- the bits of the f64 nearest to the exact product, with the sign of z; for a product of 0 the sign bit is clear
pub record ProductBits (z : ℤ) (scale bits : ℕ) : Type 0 where
  pub magnitude : ℕ
  pub nearest : NearestBits (exact_product z scale) magnitude
  pub signed : bits ≡ cond (non_neg z) 0 (2 ^ 63) + magnitude
