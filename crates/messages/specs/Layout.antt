-- The eight bytes of a process data message: document 01, "Process data messages". Definitions only.
use Rattle.std.specs.Prelude.{ℕ, ◌+◌, ◌*◌, ◌/◌, ◌%◌, Bool, ◌&&◌, ◌||◌, List, [], ◌∷◌, ◌++◌, eqb, leb, ℤ}
use Rattle.wire.specs.Bytes.{bytes_of, bits_of}

-- the commands that carry a value are 2 to 8 and A; D is the acknowledge
abbrev pub is_value_carrier : ℕ → Bool
is_value_carrier c = (leb 2 c && leb c 8) || eqb c 10

-- the command of an acknowledge, D
abbrev pub acknowledge : ℕ
acknowledge = 13

-- the first four bytes: the command with the lowest four bits of the element number, its upper eight bits, the DDI
unfoldable pub head_bytes : ℕ → ℕ → ℕ → List ℕ
head_bytes command element ddi = (element % 16 * 16 + command) ∷ (element / 16) ∷ bytes_of 2 ddi

-- a value message: these, then a signed value
unfoldable pub value_bytes : ℕ → ℕ → ℕ → ℤ → List ℕ
value_bytes command element ddi value = head_bytes command element ddi ++ bytes_of 4 (bits_of 4 value)

-- an acknowledge: these, then the error bits and the answered command in four bits; the bits that reading ignores are written as ones
unfoldable pub acknowledge_bytes : ℕ → ℕ → ℕ → ℕ → List ℕ
acknowledge_bytes element ddi errors answered = head_bytes acknowledge element ddi ++ errors ∷ (240 + answered) ∷ 255 ∷ 255 ∷ []
