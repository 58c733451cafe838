-- `naming::RecordList::find` meets its contract: the walk is at 0 or at a record of the ID's slot, and the first record with the ID does
use lib.ListN.{length}
use Rattle.naming.specs.Lists.{id_in}
use Rattle.naming.proofs.Chained.{Walks}
use Rattle.naming.proofs.RecordList.find.Given as goal

-- not come after it. The number that it is at decreases. Assumes nothing.
abbrev pub invariant-loop-r : goal.invariant-loop-r
invariant-loop-r l = Walks (id_in l.self.pool.now l.self.starts.now) l.count (length l.heads) l.id l.r

abbrev pub decreases-loop-r : goal.decreases-loop-r
decreases-loop-r l = l.r
