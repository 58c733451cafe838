-- `working_table::gather`: the first i entries are filled.
use Rattle.std.proofs.Common.{◌≡◌}
use Rattle.working_table.specs.Rows.{gathered}
use Rattle.working_table.proofs.gather.Given as goal

abbrev pub invariant-loop-i : goal.invariant-loop-i
invariant-loop-i l = l.filled ≡ gathered l.p l.starts l.i l.initial.filled
