-- The IDs of records by their starts, and blank lists. Definitions only.
use Rattle.std.specs.Prelude.{ℕ, ◌≡◌, List, get_or}
use Rattle.records.specs.Places.{id_of}

-- the ID of record i, read from the pool
unfoldable pub id_in : List ℕ → List ℕ → ℕ → ℕ
id_in p starts i = id_of p (get_or starts i 0)

-- a list of zeros
abbrev pub Blank : List ℕ → Type 0
Blank l = (x : ℕ) → get_or l x 0 ≡ 0
