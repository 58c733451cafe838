-- `chains::parents` meets its contract: for the records with numbers below r the steps are stored.
use Rattle.naming.specs.Entries.{entries_in}
use Rattle.naming.specs.Naming.{parent_of}
use Rattle.chains.proofs.Jumping.{Rising}
use Rattle.chains.proofs.parents.Given as goal

abbrev pub invariant-loop-r : goal.invariant-loop-r
invariant-loop-r l =
    Rising (parent_of l.names.records.pool.now (entries_in l.names.records)) l.r l.ups l.left
