-- Reading a pool: document 01, "Reading a pool". Definitions only.
use Rattle.std.specs.Prelude.{ℕ, zero, suc, ◌-◌, Bool, true, false, cond, List, [], ◌∷◌, eqb, ltb, length, get_or, Result, Ok, Err}
use Rattle.records.specs.Layout.{mark_code, mark_of, three}
use Rattle.records.specs.Extents.{extent_of}
use Rattle.records.specs.Answer.{extent_answer}
use Rattle.records.specs.Places.{id_of, parent_id_of}
use Rattle.records.specs.declared.Flaw.{Flaw}
use Rattle.pool.specs.Answer.{Answer, answer}

-- an entry of the working table: a record's start, length, kind, ID and parent ID
pub record Entry : Type 0 where
  pub start : ℕ
  pub size : ℕ
  pub kind : ℕ
  pub id : ℕ
  pub parent : ℕ

-- the entry of the record that starts at one place and ends before another
abbrev pub entry_at : List ℕ → ℕ → ℕ → Entry
entry_at p at end = record { start = at; size = end - at; kind = mark_code (mark_of (three p at)); id = id_of p at; parent = parent_id_of p at }

-- the entry for a record that does not exist: it has no kind
abbrev pub no_entry : Entry
no_entry = record { start = 0; size = 0; kind = 0; id = 0; parent = 0 }

-- record i of a list, counted from 0
abbrev pub record_at : List Entry → ℕ → Entry
record_at es i = get_or es i no_entry

-- the result of a walk over the records: all of them, or the answer about the earliest bad one
pub data Scan : Type 0 where
  records : List Entry → Scan
  refused : Answer → Scan

-- the result of a walk with one more record before it
abbrev pub onto : Entry → Scan → Scan
onto e (records es) = records (e ∷ es)
onto e (refused a) = refused a

-- one turn of the walk: it goes on after a record, or is refused with the number and place of what is wrong with it
abbrev pub turn : (ℕ → Scan) → List ℕ → ℕ → Result ℕ Flaw → Scan
turn rest p at (Ok end) = onto (entry_at p at end) (rest end)
turn rest p at (Err flaw) = refused (extent_answer at (Err flaw))

-- what is found from a place on, or no record if the pool ends there
abbrev pub more : Bool → Scan → Scan
more true s = s
more false s = records []

-- the walk from a place on. No record is empty, so as many turns as the pool has bytes are enough
unfoldable pub scan_from : ℕ → List ℕ → ℕ → Scan
scan_from zero p at = records []
scan_from (suc turns) p at = more (ltb at (length p)) (turn (scan_from turns p) p at (extent_of p at))

-- the walk over a whole pool
unfoldable pub scan_of : List ℕ → Scan
scan_of p = scan_from (length p) p 0

-- the records that a walk found, none if it was refused
abbrev pub entries_in : Scan → List Entry
entries_in (records es) = es
entries_in (refused a) = []

-- the answer after the walk: its refusal, or 6 for too many records, 7 for too short a table, or the count
abbrev pub counted : ℕ → Scan → Answer
counted room (refused a) = a
counted room (records es) = cond (ltb 8192 (length es)) (answer 6 0) (cond (ltb room (length es)) (answer 7 (length es)) (answer 0 (length es)))

-- what reading answers: the size is judged before anything else; room is the number of entries that the table has
unfoldable pub read_of : List ℕ → ℕ → Answer
read_of p room = cond (eqb (length p) 0) (answer 1 0) (cond (ltb 65535 (length p)) (answer 2 0) (counted room (scan_of p)))
