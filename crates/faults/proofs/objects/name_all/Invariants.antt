-- `faults::objects::name_all` meets its contract: what is still to be done leads to the whole, and the IDs at hand are those of the record
-- that is known. Assumes nothing.
use mathlib.Core.Path.{◌≡◌}
use Prim.Native.Nat.{◌-◌, ◌/◌}
use lib.ListN.{length}
use Rattle.naming.specs.Entries.{entries_in}
use Rattle.faults.specs.Faults.{record_id, record_parent, width}
use Rattle.faults.specs.Completing.{named_from, Below}
use Rattle.faults.proofs.objects.name_all.Given as goal

abbrev pub invariant-loop-i : goal.invariant-loop-i
invariant-loop-i l =
    let n = length l.initial.faults / width in
    Below (length l.records.starts.now) l.faults n
    × (named_from (entries_in l.records) l.i (n - l.i) l.faults ≡ named_from (entries_in l.records) 0 n l.initial.faults)
    × (l.ids.id ≡ record_id (entries_in l.records) l.known)
    × (l.ids.parent ≡ record_parent (entries_in l.records) l.known)
