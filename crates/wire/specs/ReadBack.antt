-- What is written reads back the same, at every width. Definitions only.
use Rattle.std.specs.Prelude.{ℕ, ◌+◌, ◌^◌, ◌≤◌, ◌<◌, ◌≡◌, List, ℤ, length}
use Rattle.std.specs.Int.Signed.{mag}
use Rattle.wire.specs.Bytes.{bytes_of, number_in, signed_of, bits_of, laid}

-- a number that fits w bytes reads back the same, written into bytes that have room for it
abbrev pub Unsigned : Type 0
Unsigned = (w x at : ℕ) (d : List ℕ) → at + w ≤ length d → x < 256 ^ w → number_in w (laid d at (bytes_of w x)) at ≡ x

-- the same for a signed number of 32 bits
abbrev pub Signed32 : Type 0
Signed32 = (z : ℤ) (at : ℕ) (d : List ℕ) → at + 4 ≤ length d → mag z < 2 ^ 31 → signed_of 4 (number_in 4 (laid d at (bytes_of 4 (bits_of 4 z))) at) ≡ z
