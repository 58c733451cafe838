-- The number of ones among a number's k lowest bits is that of its marks below k, for any k. Assumes nothing.
use mathlib.Core.Path.{◌≡◌, refl, sym, ap, ◌∙◌}
use Prim.Native.Nat.{ℕ, zero, suc, ◌/◌, ◌%◌, ◌^◌, ◌<◌}
use native.Mathlib.Nat.{mod-one, mod-lt, mod-eq_of_lt, pow-suc, mul_comm, zero-lt-suc}
use native.Mathlib.Omega.{arith}
use lib.Arith.{mod-mul}
use lib.Pow.{pow_pos}
use lib.Count.{ones, ones_step, ones_cat}
use Rattle.time_log.specs.Layout.{mark, marks_below, marks_set}

no_ones : ones 0 ≡ 0
unfolding ones
no_ones = refl

one_bit : (b : ℕ) → b < 2 → ones b ≡ b
one_bit b h = let z : b / 2 ≡ 0 = omega arith in rw (ones_step b, z, no_ones) (omega arith)

ones_below : (k x : ℕ) → ones (x % 2 ^ k) ≡ marks_below k x
unfolding marks_below
ones_below zero x = rw (mod-one x) no_ones
ones_below (suc k) x =
    rw (pow-suc 2 k, mul_comm (2 ^ k) 2, mod-mul x (zero-lt-suc 1) (pow_pos k), ones_cat k (mark x k) (x % 2 ^ k) (mod-lt x (pow_pos k)), one_bit (mark x k) (mod-lt _ (zero-lt-suc 1)), ones_below k x)

pub ones-are-marks : (layout : ℕ) → layout < 512 → ones layout ≡ marks_set layout
ones-are-marks layout h = ap ones (sym (mod-eq_of_lt h)) ∙ ones_below 9 layout
