-- What rules 8 and 9 say of a device element, and where its rows stand. Definitions only.
use Rattle.std.specs.Prelude.{ℕ, suc, Bool, not, List, eqb, length}
use Rattle.faults.specs.Rows.{Row}
use Rattle.pool.specs.Reading.{Entry}
use Rattle.naming.specs.Naming.{parent_of, climb, tag_of}
use Rattle.naming.specs.Entries.{entries_in}
use Rattle.rules.specs.Table.{repeats, element_key, entry_named, record_rows}
use Rattle.record_breaches.specs.declared.element.ElementRecord.{ElementRecord}

-- the pool that the element is in
abbrev pub pool_of : ElementRecord → List ℕ
pool_of e = e.names.now.records.pool.now

-- the records of that pool
abbrev pub around : ElementRecord → List Entry
around e = entries_in e.names.now.records

-- rule 8: whether an earlier device element has its element number
abbrev pub repeats_number : ElementRecord → Bool
repeats_number e = repeats (element_key (pool_of e) (around e)) (suc e.fields.number) e.i (length (around e))

-- rule 9: whether its chain of parents does not end
abbrev pub never_ends : ElementRecord → Bool
never_ends e = not (eqb (climb (parent_of (pool_of e) (around e)) (length (around e)) (suc e.i)) 0)

-- the tag of what an entry of its list names
abbrev pub tag_in : ElementRecord → ℕ → ℕ
tag_in e m = tag_of (pool_of e) (around e) (entry_named (pool_of e) (around e) e.at m)

-- its rows
abbrev pub rows_of : ElementRecord → List Row
rows_of e = record_rows (pool_of e) (around e) e.i
