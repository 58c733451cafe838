-- Checking over a working table, for the private functions that do it: no public contract rests on this. Definitions only.
use Rattle.std.specs.Prelude.{ℕ, ◌≡◌, List, Result, length}
use Rattle.pool.specs.declared.Refusal.{Refusal}
use Rattle.working_table.specs.declared.Record.{Record}
use Rattle.working_table.specs.Table.{records_after}
use Rattle.checker.specs.Checking.{verdict_of, records_in, check_of, count_of, faults_after}
use Rattle.checker.specs.declared.Checked.{Checked}

-- a verdict, and the table and the fault buffer after checking
abbrev pub ChecksInto : List ℕ → List Record → List ℕ → Result Checked Refusal → List Record → List ℕ → Type 0
ChecksInto p table faults r after found =
    (verdict_of r ≡ check_of p (length table))
    × (records_in r ≡ count_of p (length table))
    × (after ≡ records_after p table)
    × (found ≡ faults_after p (length table) faults)
