-- `chains::chains` meets its contract: the list has for each number where at least the given number of steps up lead.
use Prim.Native.Nat.{◌-◌, ◌≤◌}
use lib.ListN.{length}
use Rattle.naming.specs.Entries.{entries_in}
use Rattle.naming.specs.Naming.{parent_of}
use Rattle.chains.specs.Steps.{Climbs}
use Rattle.chains.proofs.chains.Given as goal

abbrev pub invariant-loop-steps : goal.invariant-loop-steps
invariant-loop-steps l =
    (1 ≤ l.steps) × Climbs (parent_of l.names.records.pool.now (entries_in l.names.records)) (length (entries_in l.names.records)) l.steps l.ups

abbrev pub decreases-loop-steps : goal.decreases-loop-steps
decreases-loop-steps l = l.count - l.steps
