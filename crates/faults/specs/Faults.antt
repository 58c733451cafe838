-- Faults, and what a fault buffer holds after them: document 01, "The rule table", and document 02, request One. Definitions only.
use Rattle.std.specs.Prelude.{ℕ, zero, suc, ◌/◌, ◌<◌, ◌≡◌, ◌⊎◌, length, take}
use mathlib.Core.List.{List, [], ◌∷◌, ◌++◌, Memᴰ}
use Rattle.std.proofs.lemmas.List.Edits.{sets}
use Rattle.pool.specs.Reading.{Entry, record_at}

-- a breach: the record's number, which is 0 for the whole pool, the rule and the item
pub record Fault : Type 0 where
  pub number : ℕ
  pub rule : ℕ
  pub item : ℕ

-- a fault by its three numbers
abbrev pub fault : ℕ → ℕ → ℕ → Fault
fault n u k = record { number = n; rule = u; item = k }

-- a fault as it is handed out: with the object ID and the parent ID of its record
pub record FaultEntry : Type 0 where
  pub fault : Fault
  pub id : ℕ
  pub parent : ℕ

-- an entry by its five numbers
abbrev pub fault_entry : ℕ → ℕ → ℕ → ℕ → ℕ → FaultEntry
fault_entry n u k id parent = record { fault = fault n u k; id = id; parent = parent }

-- zeros in all five numbers, where there is no fault
abbrev pub no_fault : FaultEntry
no_fault = fault_entry 0 0 0 0 0

-- the object ID of the record with a number, as its entry of the table has it; the whole pool, number 0, has none: 65535
abbrev pub record_id : List Entry → ℕ → ℕ
record_id es zero = 65535
record_id es (suc i) = (record_at es i).id

-- its parent ID, likewise
abbrev pub record_parent : List Entry → ℕ → ℕ
record_parent es zero = 65535
record_parent es (suc i) = (record_at es i).parent

-- the entry of a fault, given the records of the pool
abbrev pub entry_for : List Entry → Fault → FaultEntry
entry_for es f = record { fault = f; id = record_id es f.number; parent = record_parent es f.number }

-- how many numbers an entry is written as
abbrev pub width : ℕ
width = 5

-- an entry as numbers, in this order
abbrev pub numbers : FaultEntry → List ℕ
numbers e = e.fault.number ∷ e.fault.rule ∷ e.fault.item ∷ e.id ∷ e.parent ∷ []

-- entries as numbers, one after the other
abbrev pub flat : List FaultEntry → List ℕ
flat [] = []
flat (e ∷ es) = numbers e ++ flat es

-- a buffer after a check: it starts with the first entries, as many as fit; later numbers are as they were
unfoldable pub written : List ℕ → List FaultEntry → List ℕ
written buffer es = sets buffer 0 (flat (take (length buffer / width) es))

-- the order of faults: by record, then by rule, then by item
abbrev pub Before : Fault → Fault → Type 0
Before f g =
    (f.number < g.number)
    ⊎ ((f.number ≡ g.number) × ((f.rule < g.rule) ⊎ ((f.rule ≡ g.rule) × (f.item < g.item))))

-- each fault is before each later one: the list is sorted, and no fault occurs twice
abbrev pub Ascending : List Fault → Type 0
Ascending [] = Unit {0}
Ascending (f ∷ fs) = ((g : Fault) → Memᴰ g fs → Before f g) × Ascending fs
