-- `pool_listing::put_records` meets its contract: the lines of the records passed so far are written.
use Prim.Native.Nat.{◌+◌, ◌*◌, ◌≤◌}
use lib.ListN.{length, take}
use Rattle.naming.specs.Entries.{entries_in}
use Rattle.pool_listing.specs.Listing.{record_lines}
use Rattle.pool_listing.specs.Parts.{Adds}
use Rattle.pool_listing.proofs.put_records.Given as goal

abbrev pub invariant-loop-start : goal.invariant-loop-start
invariant-loop-start l =
    Adds l.initial.out l.from (record_lines (take (length l.yielded) (entries_in l.records))) l.out l.at × (l.at ≤ l.from + 32 * length l.yielded)
