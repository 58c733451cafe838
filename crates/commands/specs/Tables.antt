-- The table after judging a command. Definitions only.
use Rattle.std.specs.Prelude.{ℕ, cond, List, ltb}
use Rattle.working_table.specs.declared.Record.{Record}
use Rattle.working_table.specs.Table.{records_after}

-- for an element number over 4,095 (refusal 32) the pool is not looked at and the table is left as it was; else it is filled as by reading
unfoldable pub records_judged : List ℕ → List Record → ℕ → List Record
records_judged p table element = cond (ltb 4095 element) table (records_after p table)
