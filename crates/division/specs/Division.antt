-- The division of a pool: a non-empty list of whole records whose bytes joined are the pool. Definitions only.
use Rattle.std.specs.Prelude.{ℕ, ◌<◌, ◌≡◌, List, [], ◌∷◌, length}
use Rattle.wire.specs.Parts.{joined}
use Rattle.division.specs.Whole.{Whole}

-- each part is a whole record
abbrev pub AllWhole : List (List ℕ) → Type 0
AllWhole [] = Unit {0}
AllWhole (r ∷ rs) = Whole r × AllWhole rs

-- a division of a pool into these records
pub record Division (p : List ℕ) (rs : List (List ℕ)) : Type 0 where
  pub some : 0 < length rs
  pub whole : AllWhole rs
  pub same : p ≡ joined rs

-- a pool that has a division
pub record Divides (p : List ℕ) : Type 0 where
  pub parts : List (List ℕ)
  pub division : Division p parts
