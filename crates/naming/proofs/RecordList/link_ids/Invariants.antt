-- `naming::RecordList::link_ids` meets its contract: after i records the lists are right for those.
use mathlib.Core.Path.{◌≡◌}
use mathlib.Core.Bool.{true}
use Prim.Native.Nat.{ℕ, ◌<◌}
use Rattle.naming.specs.Lists.{id_in}
use Rattle.naming.specs.Chained.{opens, Chained}
use Rattle.naming.proofs.RecordList.link_ids.Given as goal

-- the first i records open their keys
abbrev pub Opened : (ℕ → ℕ) → ℕ → Type 0
Opened key i = (j : ℕ) → j < i → opens key j ≡ true

abbrev pub invariant-loop-i : goal.invariant-loop-i
invariant-loop-i l = Chained (id_in l.self.pool.now l.self.starts.now) l.i l.heads l.next × (l.distinct ≡ true → Opened (id_in l.self.pool.now l.self.starts.now) l.i)
