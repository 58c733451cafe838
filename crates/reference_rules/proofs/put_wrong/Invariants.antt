-- `reference_rules::put_wrong` meets its contract: entry by entry.
use mathlib.Core.List.{[], ◌∷◌}
use Rattle.faults.specs.Rows.{many}
use Rattle.faults.specs.Adding.{Adds}
use Rattle.reference_rules.specs.Entries.{wrong_in}
use Rattle.reference_rules.proofs.put_wrong.Given as goal

abbrev pub invariant-loop-m : goal.invariant-loop-m
invariant-loop-m l = Adds l.number (many 7 2 l.m (wrong_in l.list) ∷ []) l.m l.initial.faults l.faults
