-- `pool::scan` meets its contract: the rest of the walk gives the answer of the whole walk, and the records listed and those
use mathlib.Core.Path.{◌≡◌}
use Prim.Native.Nat.{◌*◌, ◌-◌, ◌≤◌}
use lib.ListN.{length}
use Rattle.pool.specs.Reading.{scan_of}
use Rattle.pool.specs.Walk.{count_from}
use Rattle.pool.proofs.Steps.{Standing}
use Rattle.pool.proofs.Listing.{Listing}
use Rattle.pool.proofs.scan.Given as goal

-- still to come are all records. Assumes nothing.
abbrev pub invariant-loop-at : goal.invariant-loop-at
invariant-loop-at l = (l.at ≤ length l.p) × (12 * l.n ≤ l.at) × Standing l.p (count_from 0 (scan_of l.p)) l.at l.n × (length l.starts ≡ length l.initial.starts) × Listing l.p l.starts l.at l.n

abbrev pub decreases-loop-at : goal.decreases-loop-at
decreases-loop-at l = length l.p - l.at
