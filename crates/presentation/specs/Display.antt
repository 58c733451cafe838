-- The displayed value, and its answer in the numbers of document 01. Definitions only.
use Rattle.std.specs.Prelude.{ℕ, ◌≡◌, Bool, cond, not, ◌&&◌, leb, ℤ, ◌+ℤ◌, Float, Option, Some, None}
use Rattle.std.specs.Float.{binary32, binary64}
use Rattle.std.specs.Float.Ieee.{is_nan, to_bits, of_bits, of_int, mul}
use Rattle.presentation.specs.Rounding.{ProductBits}
use Rattle.presentation.specs.declared.Presentation.{Presentation}

-- the scale's bits, as a number, are within the two limits; those of every NaN are outside
unfoldable pub in_range : Float → Bool
in_range x = not (is_nan x) && (leb 0x322BCC77 (to_bits binary32 x) && leb (to_bits binary32 x) 0x4CBEBC20)

-- an answer in document 01's terms: the number of the refusal, or 0, and a value
pub record Answer : Type 0 where
  pub number : ℕ
  pub value : Float

-- number 0 and the value that is shown, or 50 and the f64 whose bits are 0
abbrev pub answer_of : Option Float → Answer
answer_of (Some x) = record { number = 0; value = x }
answer_of None = record { number = 50; value = of_bits binary64 0 }

-- the product in f64 of the sum and the scale, both of which an f64 holds exactly; 50 for a scale or decimals out of range
unfoldable pub shown_of : ℤ → Presentation → Answer
shown_of v p =
    cond (in_range p.scale && leb p.decimals 7)
    (record { number = 0; value = mul binary64 (of_int binary64 (v +ℤ p.offset)) p.scale })
    (record { number = 50; value = of_bits binary64 0 })

-- the answer is `shown_of`, and a value that is shown has the bits of the f64 nearest to the exact product
pub record Shown (v : ℤ) (p : Presentation) (a : Answer) : Type 0 where
  pub answer : a ≡ shown_of v p
  pub bits : a.number ≡ 0 → ProductBits (v +ℤ p.offset) (to_bits binary32 p.scale) (to_bits binary64 a.value)
