-- Claims about the displayed value in addition to its contract, over whole numbers alone. Definitions only.
use Rattle.std.specs.Prelude.{ℕ, ◌^◌, ◌≤◌, ◌<◌, ◌≡◌, ◌↔◌, ◌⊎◌, ℤ}
use Rattle.std.specs.Float.{binary32}
use Rattle.std.specs.Float.Ieee.{of_bits}
use Rattle.presentation.specs.Rounding.{ProductBits}
use Rattle.presentation.specs.Display.{shown_of}

-- the bits are fixed: only one number can be the bits of the exact product rounded once
abbrev pub BitsAreFixed : Type 0
BitsAreFixed = (z : ℤ) (scale a b : ℕ) → ProductBits z scale a → ProductBits z scale b → a ≡ b

-- 50 is given exactly if rule 5 is broken: the 32 bits of the scale, as a number, are outside the range, or the decimals are over 7
abbrev pub FiftyIsRuleFive : Type 0
FiftyIsRuleFive = (v offset : ℤ) (bits decimals : ℕ) → bits < 2 ^ 32
    → ((shown_of v (record { offset = offset; scale = of_bits binary32 bits; decimals = decimals })).number ≡ 50) ↔ (((0x322BCC77 ≤ bits) × (bits ≤ 0x4CBEBC20) → ⊥) ⊎ (7 < decimals))
