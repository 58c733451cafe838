-- For the functions that complete written faults: no statement about a whole check rests on these. Definitions only.
use Rattle.std.specs.Prelude.{ℕ, zero, suc, ◌+◌, ◌*◌, ◌≤◌, ◌<◌, ◌≡◌, length, get_or}
use mathlib.Core.List.{List, [], ◌∷◌, map, Memᴰ}
use Rattle.std.proofs.lemmas.List.Edits.{sets}
use Rattle.pool.specs.Reading.{Entry}
use Rattle.faults.specs.Faults.{Fault, record_id, record_parent, entry_for, width, written}
use Rattle.faults.specs.Emission.{unnamed}

-- the two IDs of the record with a number, in the order of an entry
abbrev pub ids_of : List Entry → ℕ → List ℕ
ids_of es number = record_id es number ∷ record_parent es number ∷ []

-- the buffer after n faults from fault k on have got their IDs, by the record number that each starts with
unfoldable pub named_from : List Entry → ℕ → ℕ → List ℕ → List ℕ
named_from es k zero b = b
named_from es k (suc n) b = named_from es (k + 1) n (sets b (k * width + 3) (ids_of es (get_or b (k * width) 0)))

-- the first n faults that a buffer holds are each of a record below a number
pub record Below (limit : ℕ) (b : List ℕ) (n : ℕ) : Type 0 where
  pub fits : n * width ≤ length b
  pub listed : (k : ℕ) → k < n → get_or b (k * width) 0 < limit

-- a buffer as a check leaves it: the first of the faults that it found, as many as fit, without their IDs
abbrev pub Laid : List ℕ → List Fault → List ℕ → ℕ → Type 0
Laid before fs b found = (b ≡ written before (map unnamed fs)) × (found ≡ length fs)

-- these are faults of records below a number
pub record Unnamed (limit : ℕ) (b : List ℕ) (found : ℕ) : Type 0 where
  pub before : List ℕ
  pub faults : List Fault
  pub laid : Laid before faults b found
  pub listed : (f : Fault) → Memᴰ f faults → f.number < limit

-- the buffer afterwards: it holds the entries of the same faults
abbrev pub Completed : List Entry → List ℕ → ℕ → List ℕ → Type 0
Completed es b found after = (before : List ℕ) (fs : List Fault) → Laid before fs b found → after ≡ written before (map (entry_for es) fs)
