-- A list of bytes as a list of bits. Definitions only.
use Rattle.std.specs.Prelude.{ℕ, ◌/◌, ◌%◌, ◌^◌, Bool, List, eqb, get_or}

-- bit k of a byte, whose value is 2 ^ k
unfoldable pub bit : ℕ → ℕ → Bool
bit w k = eqb (w / 2 ^ k % 2) 1

-- bit i of the list: eight in a byte, the lowest first
unfoldable pub bit_at : List ℕ → ℕ → Bool
unfolding bit
bit_at marks i = bit (get_or marks (i / 8) 0) (i % 8)
