-- One pass over the records, for the functions that do it: no contract of a call rests on these. Definitions only.
use Rattle.std.specs.Prelude.{ℕ, suc, ◌+◌, ◌*◌, ◌≤◌, ◌<◌, ◌≡◌, true, false, not, List, eqb, length}
use Rattle.marks.specs.Bits.{bit_at}
use Rattle.pool.specs.Reading.{Entry}
use Rattle.pool.specs.Walk.{entries_of}
use Rattle.faults.specs.Emission.{Emits, Puts}
use Rattle.faults.specs.Adding.{Adds}
use Rattle.faults.specs.declared.FaultList.{FaultList}
use Rattle.naming.specs.Records.{kind_at}
use Rattle.naming.specs.Naming.{parent_of, climb}
use Rattle.naming.specs.Lists.{Blank}
use Rattle.naming.specs.declared.RecordList.{RecordList}
use Rattle.naming.specs.Entries.{entries_in}
use Rattle.pool_breaches.specs.declared.sight.Sight.{Sight}
use Rattle.rules.specs.Table.{repeats, element_key, pool_rows, record_rows, breaches_in}
use Rattle.chains.specs.Noted.{Noted}
use Rattle.chains.specs.Steps.{Falling}

-- if the faults of the whole pool were reported before, all faults are reported now, in the same buffer
abbrev pub Completes : List ℕ → List Entry → FaultList → FaultList → Type 0
Completes p es before after =
    (after.buffer.ghost_name ≡ before.buffer.ghost_name)
    × ((b : List ℕ) → Puts 0 (pool_rows p es) b 0 before.buffer.now before.count → Emits b 0 (breaches_in p es) after.buffer.now after.count)

-- the marks of the records tell which of them break rules 8 and 9
pub record BreachesMarked (p starts again endless : List ℕ) : Type 0 where
  pub repeating : (i : ℕ) → suc i < length starts → kind_at (entries_of p starts) i ≡ 2
      → bit_at again i ≡ repeats (element_key p (entries_of p starts)) (element_key p (entries_of p starts) i) i (length (entries_of p starts))
  pub circling : (i : ℕ) → suc i < length starts
      → bit_at endless i ≡ not (eqb (climb (parent_of p (entries_of p starts)) (length (entries_of p starts)) (suc i)) 0)

-- before record i: all records have been marked; or none has, and then every earlier element number is at most 4095 and has been
-- noted, and every earlier device element comes after its parent if that is a device element
pub record Sighted (records : RecordList) (i : ℕ) (s : Sight) : Type 0 where
  pub room : 4096 ≤ 8 * length s.numbers.now
  pub again_room : length records.starts.now ≤ 8 * length s.again.now
  pub endless_room : length records.starts.now ≤ 8 * length s.endless.now
  pub marked : s.full ≡ true → BreachesMarked records.pool.now records.starts.now s.again.now s.endless.now
  pub blank : s.full ≡ false → Blank s.again.now × Blank s.endless.now
  pub noted : s.full ≡ false → Noted 4096 (element_key records.pool.now (entries_in records)) i s.numbers.now
  pub falling : s.full ≡ false → Falling records.pool.now (entries_in records) (suc i)

-- the faults of record i have been added
abbrev pub Added : RecordList → ℕ → FaultList → FaultList → Type 0
Added records i before after = Adds (i + 1) (record_rows records.pool.now (entries_in records) i) 98313 before after
