-- `pool_listing::put_faults` meets its contract: the lines of the faults passed so far are written.
use Prim.Native.Nat.{◌+◌, ◌*◌, ◌≤◌}
use Rattle.pool_listing.specs.Listing.{fault_lines}
use Rattle.pool_listing.specs.Parts.{Adds, faults_in}
use Rattle.pool_listing.proofs.put_faults.Given as goal

abbrev pub invariant-loop-number : goal.invariant-loop-number
invariant-loop-number l =
    Adds l.initial.out l.from (fault_lines (faults_in l.number-index l.faults)) l.out l.at × (l.at ≤ l.from + 36 * l.number-index)
