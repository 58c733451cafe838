-- The sum of two numbers of 32 bits fits into 64, and an f64 holds it exactly. Assumes nothing.
use mathlib.Core.Path.{◌≡◌}
use mathlib.Core.Bool.{Bool, true, false, cond}
use Prim.Native.Nat.{ℕ, suc, ◌+◌, ◌-◌, ◌^◌, ◌<◌, ◌≤◌}
use native.Mathlib.Omega.{arith}
use lib.Dec.{T, ltb, le→leb, lt→ltb}
use lib.IntN.{ℤ, pos, negsuc, ◌+ℤ◌, sub_ℕ}
use lib.Signed.{mag}
use lib.Ieee.{binary64, in_float}
use mir.Syntax.{w32, w64}
use mir.Val.{SFits, to_z, of_z}
use mir.ValLaws.{to_z-of_z}

difference : (a b m : ℕ) → a < m → b ≤ m → mag (sub_ℕ a b) < m
difference a b m h k = by_sign (ltb a b)
  where
    by_sign : (t : Bool) → mag (cond t (negsuc (b - suc a)) (pos (a - b))) < m
    by_sign true = omega arith
    by_sign false = omega arith

sum_below : (a b : ℤ) (m : ℕ) → mag a < m → mag b < m → mag (a +ℤ b) < m + m
sum_below (pos a) (pos b) m h k = omega arith
sum_below (pos a) (negsuc b) m h k = omega (arith, difference a (suc b) m h k)
sum_below (negsuc a) (pos b) m h k = omega (arith, difference b (suc a) m k h)
sum_below (negsuc a) (negsuc b) m h k = omega arith

held : (z : ℤ) → mag z < 2 ^ 53 → T (in_float binary64 z)
unfolding in_float
held (pos n) h = le→leb n (2 ^ 53) (omega arith)
held (negsuc n) h = lt→ltb n (2 ^ 53) h

-- a number of 32 bits at 64, and as it is read back from there
pub widened : {z : ℤ} → SFits w32 z → SFits w64 z
widened f = record { sfits = omega (arith, f.sfits) }

pub read_back : (z : ℤ) → SFits w32 z → to_z w64 (of_z w64 (to_z w32 (of_z w32 z))) ≡ z
read_back z f = rw (to_z-of_z w32 z f) (to_z-of_z w64 z (widened f))

module _ (a b : ℤ) (f : SFits w32 a) (g : SFits w32 b) where
  pub sum-small : mag (a +ℤ b) < 2 ^ 32
  sum-small = sum_below a b (2 ^ 31) f.sfits g.sfits

  pub sum_fits : SFits w64 (a +ℤ b)
  sum_fits = record { sfits = omega (arith, sum-small) }

  pub sum-held : T (in_float binary64 (a +ℤ b))
  sum-held = held (a +ℤ b) (omega (arith, sum-small))
