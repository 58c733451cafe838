-- How a reader reads decimal digits, independently of how they are written. Definitions only.
use Rattle.std.specs.Prelude.{ℕ, ◌+◌, ◌*◌, ◌-◌, ◌≤◌, ◌<◌, ◌≡◌, List, [], ◌∷◌, length, get_or}
use Rattle.decimal.specs.Digits.{digits}

-- the number that digits represent: each further digit is added to ten times what was read so far
unfoldable pub read_on : ℕ → List ℕ → ℕ
read_on v [] = v
read_on v (b ∷ bs) = read_on (v * 10 + (b - 48)) bs

-- bytes are the decimal digits of a number: they read as it, each is a digit, there is at least one, and only 0 itself begins with a 0
pub record Figures (n : ℕ) (bs : List ℕ) : Type 0 where
  pub reads : read_on 0 bs ≡ n
  pub each : (i : ℕ) → i < length bs → (48 ≤ get_or bs i 0) × (get_or bs i 0 ≤ 57)
  pub some : 0 < length bs
  pub lead : get_or bs 0 0 ≡ 48 → length bs ≡ 1

-- the bytes that `digits` gives are the decimal digits of the number, for every number
abbrev pub Spelt : Type 0
Spelt = (n : ℕ) → Figures n (digits n)

-- no other bytes are the decimal digits of a number
abbrev pub OneSpelling : Type 0
OneSpelling = (n : ℕ) (bs : List ℕ) → Figures n bs → bs ≡ digits n
