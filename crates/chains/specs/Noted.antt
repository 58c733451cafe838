-- Marks for the keys of records and for records, for internal functions. Definitions only.
use Rattle.std.specs.Prelude.{ℕ, suc, ◌*◌, ◌<◌, ◌≡◌, Bool, not, ◌&&◌, List, eqb, ltb, length}
use Rattle.marks.specs.Bits.{bit_at}
use Rattle.naming.specs.Naming.{first_of}

-- a number x below the bound is marked exactly if one of the first n records has the key x + 1
abbrev pub Noted : ℕ → (ℕ → ℕ) → ℕ → List ℕ → Type 0
Noted bound key n numbers = (x : ℕ) → x < bound → bit_at numbers x ≡ not (eqb (first_of key (suc x) n) 0)

-- in a list of marks exactly those numbers below n are marked for which the test holds
abbrev pub HitsMarked : (ℕ → Bool) → ℕ → List ℕ → Type 0
HitsMarked test n marks = (j : ℕ) → j < 8 * length marks → bit_at marks j ≡ (ltb j n && test j)
