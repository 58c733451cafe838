-- The working table as a list of records: document 01, "Reading a pool". Definitions only.
use Rattle.std.specs.Prelude.{ℕ, cond, List, map, eqb, length}
use Rattle.std.proofs.lemmas.List.Edits.{sets}
use Rattle.pool.specs.Reading.{Entry, scan_of, entries_in, read_of}
use Rattle.working_table.specs.declared.Record.{Record}

-- an entry of a pool's division as an element of the table: start, length, kind, ID and parent ID
abbrev pub record_of : Entry → Record
record_of e = record { start = e.start; length = e.size; kind = e.kind; id = e.id; parent = e.parent }

-- a record of zeros, as the entry past a table's end
abbrev pub blank : Record
blank = record { start = 0; length = 0; kind = 0; id = 0; parent = 0 }

-- the table after reading: if the pool is read, it starts with an entry for each record, and later entries are as they were; else it
-- is unchanged. It has room for as many records as it has entries
unfoldable pub records_after : List ℕ → List Record → List Record
records_after p table = cond (eqb (read_of p (length table)).number 0) (sets table 0 (map record_of (entries_in (scan_of p)))) table
