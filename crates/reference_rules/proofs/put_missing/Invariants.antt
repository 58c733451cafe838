-- `reference_rules::put_missing` meets its contract: entry by entry.
use mathlib.Core.List.{[], ◌∷◌}
use Prim.Native.Nat.{ℕ, ◌≤◌}
use lib.Dec.{eqb}
use Rattle.faults.specs.Rows.{many}
use Rattle.faults.specs.Adding.{Adds}
use Rattle.reference_rules.specs.Entries.{named_in, data_in, tag_in}
use Rattle.reference_rules.proofs.Looking.{Looking}
use Rattle.reference_rules.proofs.put_missing.Given as goal

abbrev pub invariant-loop-m : goal.invariant-loop-m
invariant-loop-m l =
    Adds l.number (many 6 2 l.m (λ (i : ℕ). eqb (named_in l.list i) 0) ∷ []) l.m l.initial.faults l.faults × (l.tagged ≤ l.m) × Looking (named_in l.list) (data_in l.list) (tag_in l.list) l.m l.wrong l.tagged
