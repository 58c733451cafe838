-- Checking a pool: document 01, the paragraph on checking after the rule table. Definitions only.
use Rattle.std.specs.Prelude.{ℕ, cond, List, Result, Ok, Err, map, eqb, length}
use Rattle.pool.specs.Answer.{Answer, answer, refusal_answer}
use Rattle.pool.specs.Reading.{scan_of, entries_in, read_of}
use Rattle.pool.specs.declared.Refusal.{Refusal}
use Rattle.faults.specs.Faults.{FaultEntry, entry_for, written}
use Rattle.rules.specs.Table.{breaches_of}
use Rattle.checker.specs.declared.Checked.{Checked}

-- the number and value of each verdict: 0 and the full count of faults, or reading's refusal and its place
abbrev pub verdict_of : Result Checked Refusal → Answer
verdict_of (Ok checked) = answer 0 checked.faults
verdict_of (Err refusal) = refusal_answer refusal

-- the count of records in a verdict, 0 for a refusal
abbrev pub records_in : Result Checked Refusal → ℕ
records_in (Ok checked) = checked.records
records_in (Err refusal) = 0

-- checking refuses as reading does, or answers the length of the breach list; room is the number of entries that the table has
unfoldable pub check_of : List ℕ → ℕ → Answer
check_of p room = cond (eqb (read_of p room).number 0) (answer 0 (length (breaches_of p))) (read_of p room)

-- how many records reading finds, 0 if it refuses
unfoldable pub count_of : List ℕ → ℕ → ℕ
count_of p room = cond (eqb (read_of p room).number 0) (read_of p room).value 0

-- the breach list as it is handed out: each fault with the object ID and the parent ID of its record
unfoldable pub reported : List ℕ → List FaultEntry
reported p = map (entry_for (entries_in (scan_of p))) (breaches_of p)

-- the fault buffer after checking: it starts with the first faults if the pool is read; else it is unchanged
unfoldable pub faults_after : List ℕ → ℕ → List ℕ → List ℕ
faults_after p room faults = cond (eqb (read_of p room).number 0) (written faults (reported p)) faults
