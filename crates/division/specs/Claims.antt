-- The claims: a division is unique, and the extent of a record is decided by whole and bad records alone. Definitions only.
use Rattle.std.specs.Prelude.{ℕ, ◌+◌, ◌≤◌, ◌≡◌, ◌↔◌, List, ◌++◌, length, drop, Ok, Err}
use Rattle.records.specs.Extents.{extent_of}
use Rattle.records.specs.declared.Flaw.TheVariants.{NoMark, Cut, LengthOver}
use Rattle.division.specs.Whole.{Whole}
use Rattle.division.specs.Bad.{Unmarked, CutShort, OverLimit}
use Rattle.division.specs.Division.{Division}

-- a pool has at most one division
abbrev pub Unique : Type 0
Unique = (p : List ℕ) (rs ss : List (List ℕ)) → Division p rs → Division p ss → rs ≡ ss

-- no record is shorter than 12 bytes
abbrev pub Shortest : Type 0
Shortest = (r : List ℕ) → Whole r → 12 ≤ length r

-- the bytes from a place on begin with a whole record, which ends at end
abbrev pub Begins : List ℕ → ℕ → ℕ → Type 0
Begins p at end = (r : List ℕ) × (rest : List ℕ) × (drop at p ≡ r ++ rest) × Whole r × (end ≡ at + length r)

-- the record's end, and each refusal, is given exactly if the bytes from its start on are as the definitions say
pub record Exactly (p : List ℕ) (at : ℕ) : Type 0 where
  pub ends : (end : ℕ) → (extent_of p at ≡ Ok end) ↔ Begins p at end
  pub unmarked : (extent_of p at ≡ Err NoMark) ↔ Unmarked (drop at p)
  pub cut : (extent_of p at ≡ Err Cut) ↔ CutShort (drop at p)
  pub over : (place : ℕ) → (extent_of p at ≡ Err (LengthOver (at + place))) ↔ OverLimit (drop at p) place
