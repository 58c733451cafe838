-- `reference_rules::links::walk_links` meets its contract: the walk over the entries, and inside it the walk along the links. The number of
-- the first entry that names the record decreases.
use mathlib.Core.Path.{◌≡◌}
use Prim.Native.Nat.{◌<◌}
use lib.ListN.{length}
use Rattle.naming.specs.Naming.{tag_of}
use Rattle.reference_rules.specs.Entries.{around, named_in}
use Rattle.reference_rules.proofs.Linked.{place, Walks}
use Rattle.reference_rules.proofs.Linking.{Linking}
use Rattle.reference_rules.proofs.links.walk_links.Given as goal

abbrev pub invariant-loop-k : goal.invariant-loop-k
invariant-loop-k l =
    (l.links ≡ l.initial.links) × (l.faults ≡ l.initial.faults) × Walks (named_in l.list) (tag_of l.list.names.records.pool.now (around l.list)) 2048 l.m l.tag l.k × (l.k < length l.list.names.records.starts.now)

abbrev pub decreases-loop-k : goal.decreases-loop-k
decreases-loop-k l = place (named_in l.list) l.list.size l.k

abbrev pub invariant-entries : goal.invariant-entries
invariant-entries l =
    Linking (named_in l.list) (tag_of l.list.names.records.pool.now (around l.list)) 2048 l.number l.list.size l.initial.links l.initial.faults l.tops l.links l.faults l.m
