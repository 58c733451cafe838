-- A number in decimal digits, as bytes. Definitions only.
use Rattle.std.specs.Prelude.{ℕ, zero, suc, ◌+◌, ◌/◌, ◌%◌, cond, List, [], ◌∷◌, ◌++◌, leb, ltb, length}

-- the ASCII code of a digit
abbrev pub digit : ℕ → ℕ
digit d = 48 + d

-- a number below ten is one digit; any other is the digits of the number divided by ten, then its last digit. The quotient is smaller than
-- the number, so one turn more than the number is enough
unfoldable pub digits_in : ℕ → ℕ → List ℕ
digits_in zero n = []
digits_in (suc turns) n = cond (ltb n 10) (digit n ∷ []) (digits_in turns (n / 10) ++ digit (n % 10) ∷ [])

-- the digits of a number, the highest first
unfoldable pub digits : ℕ → List ℕ
digits n = digits_in (suc n) n

-- the place for the next bytes: right after these, or the same place if these do not fit
unfoldable pub place_after : List ℕ → ℕ → List ℕ → ℕ
place_after d at bs = cond (leb (at + length bs) (length d)) (at + length bs) at
