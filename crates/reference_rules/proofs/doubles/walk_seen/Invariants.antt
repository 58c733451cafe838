-- `reference_rules::doubles::walk_seen` meets its contract: the walk over the entries, and inside it the walk over the DDIs kept.
use mathlib.Core.Path.{◌≡◌}
use Rattle.reference_rules.specs.Entries.{tag_in}
use Rattle.reference_rules.specs.Lists.{Holds}
use Rattle.reference_rules.proofs.Walking.{Walking}
use Rattle.reference_rules.proofs.doubles.walk_seen.Given as goal

abbrev pub invariant-loop-known : goal.invariant-loop-known
invariant-loop-known l = (l.faults ≡ l.initial.faults) × (Holds l.known-items l.known-index l.ddi → ⊥)

abbrev pub invariant-entries : goal.invariant-entries
invariant-entries l = Walking (tag_in l.list) l.number l.list.size l.initial.seen l.initial.faults l.seen l.faults l.kept l.m
