-- Worked displayed values, each by computation. Assumes nothing.
use mathlib.Core.Path.{◌≡◌, refl}
use Prim.Native.Nat.{ℕ}
use lib.IntN.{ℤ, pos, negsuc}
use lib.Ieee.{binary32, binary64, is_nan, to_bits, of_bits, of_int, mul}
use Rattle.presentation.specs.Display.{in_range, shown_of}

-- number and bits of what is shown for a value, an offset, the bits of a scale, and decimals
abbrev shown : ℤ → ℤ → ℕ → ℕ → ℕ × ℕ
shown v offset scale decimals =
    let a = shown_of v (record { offset = offset; scale = of_bits binary32 scale; decimals = decimals }) in
    (a.number, to_bits binary64 a.value)

-- 100, offset -20, scale 0.5: 40
document : shown (pos 100) (negsuc 19) 0x3F000000 0 ≡ (0, 0x4044000000000000)
unfolding shown_of in_range is_nan to_bits of_bits of_int mul
document = refl

-- the largest sum at the largest scale
largest : shown (pos 2147483647) (pos 2147483647) 0x4CBEBC20 7 ≡ (0, 0x4397D783FFD050F8)
unfolding shown_of in_range is_nan to_bits of_bits of_int mul
largest = refl

-- a sum of 0 has no sign
zero : shown (negsuc 4) (pos 5) 0x322BCC77 0 ≡ (0, 0)
unfolding shown_of in_range is_nan to_bits of_bits of_int mul
zero = refl

-- a step beyond either end, a NaN, and decimals over 7
refused : (shown (pos 1) (pos 0) 0x322BCC76 0 ≡ (50, 0)) × (shown (pos 1) (pos 0) 0x4CBEBC21 0 ≡ (50, 0)) × (shown (pos 1) (pos 0) 0x7FC00000 0 ≡ (50, 0)) × (shown (pos 1) (pos 0) 0x3F000000 8 ≡ (50, 0))
unfolding shown_of in_range is_nan to_bits of_bits of_int mul
refused = (refl, refl, refl, refl)
