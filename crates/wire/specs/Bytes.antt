-- Numbers as bytes: document 01 has every number on the wire lowest byte first. Definitions only.
use Rattle.std.specs.Prelude.{ℕ, zero, suc, ◌+◌, ◌*◌, ◌-◌, ◌/◌, ◌%◌, ◌^◌, ◌<◌, cond, List, [], ◌∷◌, leb, ltb, ℤ, pos, negsuc, length, get_or, take, drop}
use Rattle.std.proofs.lemmas.List.Edits.{sets}

-- a list of bytes
abbrev pub Octets : List ℕ → Type 0
Octets s = (i : ℕ) → get_or s i 0 < 256

-- the number that bytes represent, the lowest byte first
unfoldable pub le_of : List ℕ → ℕ
le_of [] = 0
le_of (b ∷ bs) = b + le_of bs * 256

-- the w lowest bytes of a number
unfoldable pub bytes_of : ℕ → ℕ → List ℕ
bytes_of zero x = []
bytes_of (suc w) x = x % 256 ∷ bytes_of w (x / 256)

-- the number in the w bytes at a place; a byte past the end adds nothing
unfoldable pub number_in : ℕ → List ℕ → ℕ → ℕ
number_in w s at = le_of (take w (drop at s))

-- w bytes as a signed number, in two's complement
unfoldable pub signed_of : ℕ → ℕ → ℤ
signed_of w x = cond (ltb (2 * x) (256 ^ w)) (pos x) (negsuc (256 ^ w - suc x))

-- the number whose w bytes represent a signed number, likewise
unfoldable pub bits_of : ℕ → ℤ → ℕ
bits_of w (pos n) = n
bits_of w (negsuc n) = 256 ^ w - suc n

-- bytes with others written over them from a place on; unchanged if these do not fit
unfoldable pub laid : List ℕ → ℕ → List ℕ → List ℕ
laid d at bs = cond (leb (at + length bs) (length d)) (sets d at bs) d
