-- A table filled from a pool by its records' starts, for internal functions: no contract of a call rests on these. Definitions only.
use Rattle.std.specs.Prelude.{ℕ, zero, suc, ◌+◌, ◌≤◌, ◌<◌, ◌≡◌, List, length, get_or, set}
use Rattle.records.specs.Layout.{mark_code, mark_of, three}
use Rattle.records.specs.Places.{field_at}
use Rattle.records.specs.declared.Kind.TheVariants.{Det}
use Rattle.pool.specs.Reading.{entry_at}
use Rattle.working_table.specs.declared.Record.{Record}
use Rattle.working_table.specs.Table.{record_of}

-- the entry of record i of a pool, by a list of starts: it ends where the next one starts
unfoldable pub row_in : List ℕ → List ℕ → ℕ → Record
row_in p starts i = record_of (entry_at p (get_or starts i 0) (get_or starts (suc i) 0))

-- a table with the first n entries filled from a pool
unfoldable pub gathered : List ℕ → List ℕ → ℕ → List Record → List Record
gathered p starts zero table = table
gathered p starts (suc n) table = set (gathered p starts n table) n (row_in p starts n)

-- record i of a list of starts can be read from a pool: the list has its start and its end, the end is not before the start, and the
-- pool has a mark at the start, followed by the two bytes of an ID, and in a device element the two bytes of the parent ID
pub record Stands (p starts : List ℕ) (i : ℕ) : Type 0 where
  pub listed : suc i < length starts
  pub rises : get_or starts i 0 ≤ get_or starts (suc i) 0
  pub within : get_or starts i 0 + 5 ≤ length p
  pub marked : mark_code (mark_of (three p (get_or starts i 0))) ≡ 0 → ⊥
  pub parent : mark_code (mark_of (three p (get_or starts i 0))) ≡ 2 → field_at Det 4 p (get_or starts i 0) + 2 ≤ length p

-- the first n entries of a table can be filled: it has at least n entries, and each of the n records can be read
pub record Fillable (p starts : List ℕ) (n : ℕ) (table : List Record) : Type 0 where
  pub room : n ≤ length table
  pub stands : (i : ℕ) → i < n → Stands p starts i
