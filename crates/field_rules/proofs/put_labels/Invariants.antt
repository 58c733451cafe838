-- `field_rules::put_labels` meets its contract: item by item.
use mathlib.Core.List.{[], ◌∷◌}
use Rattle.faults.specs.Rows.{many}
use Rattle.faults.specs.Adding.{Adds}
use Rattle.rules.specs.Table.{bad_label}
use Rattle.field_rules.proofs.put_labels.Given as goal

abbrev pub invariant-loop-j : goal.invariant-loop-j
invariant-loop-j l = Adds l.number (many 5 1 l.j (bad_label l.p l.at) ∷ []) l.j l.initial.own l.own
