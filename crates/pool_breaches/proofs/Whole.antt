-- The faults of a whole pool, record by record. Assumes nothing.
use mathlib.Core.Path.{◌≡◌, refl, ◌∙◌, subst}
use mathlib.Core.List.{List}
use Prim.Native.Nat.{ℕ, suc, ◌+◌, ◌*◌, ◌<◌, ◌≤◌}
use native.Mathlib.Numerals.{add-one}
use native.Mathlib.Omega.{arith}
use lib.ListN.{length}
use Rattle.faults.specs.Rows.{faults_of_rows, in_records}
use Rattle.faults.specs.Emission.{Emits}
use Rattle.faults.specs.declared.FaultList.{FaultList}
use Rattle.faults.proofs.Emission.{emits-record, emits-no-records}
use Rattle.naming.specs.declared.RecordList.{RecordList}
use Rattle.naming.specs.Entries.{entries_in}
use Rattle.pool.proofs.Starts.{entries-long}
use Rattle.rules.specs.Table.{record_rows, rows_of, breaches_in}
use Rattle.pool_breaches.specs.declared.sight.Sight.{Sight}
use Rattle.pool_breaches.specs.Passing.{Completes, Sighted, Added}

-- a loop over the records: what it adds to what was put before it
pub record Putting (records : RecordList) (faults₀ : FaultList) (s : Sight) (faults : FaultList) (i : ℕ) : Type 0 where
  pub sighted : Sighted records i s
  pub same : faults.buffer.ghost_name ≡ faults₀.buffer.ghost_name
  pub within : suc i ≤ length records.starts.now
  pub few : faults.count ≤ faults₀.count + i * 98313
  pub grown :
      (b : List ℕ) → Emits b 0 (in_records (rows_of records.pool.now (entries_in records)) 1) faults₀.buffer.now faults₀.count
      → Emits b 0 (in_records (rows_of records.pool.now (entries_in records)) (suc i)) faults.buffer.now faults.count

module _ (records : RecordList) where
  pub putting-start : (s : Sight) (faults : FaultList) → Sighted records 0 s → 0 < length records.starts.now → Putting records faults s faults 0
  putting-start s faults w h =
      record {
        sighted = w;
        same = refl;
        within = omega arith;
        few = omega arith;
        grown = λ b e. e;
      }

  pub putting-more : {faults₀ : FaultList} {s : Sight} {faults : FaultList} {i : ℕ} → i + 1 < length records.starts.now → Putting records faults₀ s faults i
      → (s' : Sight) (faults' : FaultList) → Added records i faults faults' → Sighted records (i + 1) s'
      → Putting records faults₀ s' faults' (i + 1)
  putting-more {faults = faults} {i = i} h w s' faults' added sighted =
      let rows = rows_of records.pool.now (entries_in records) in
      record {
        sighted = sighted;
        same = added.same ∙ w.same;
        within = omega arith;
        few = omega (arith, added.few, w.few);
        grown =
            λ b₀ e.
            let s : i + 1 ≡ suc i = add-one i in
            let t : suc i + 1 ≡ suc (i + 1) = omega arith in
            subst (λ (k : ℕ). Emits b₀ 0 (in_records rows k) faults'.buffer.now faults'.count) t
            (emits-record rows (suc i) (w.grown b₀ e)
            (subst (λ (k : ℕ). Emits faults.buffer.now faults.count (faults_of_rows k (record_rows records.pool.now (entries_in records) i)) faults'.buffer.now faults'.count) s added.puts.emits));
      }

  pub putting-end : {faults₀ : FaultList} {s : Sight} {faults : FaultList} {i : ℕ} → length records.starts.now ≤ i + 1 → Putting records faults₀ s faults i
      → Completes records.pool.now (entries_in records) faults₀ faults
  unfolding breaches_in
  putting-end {faults = faults} {i = i} h w =
      let rows = rows_of records.pool.now (entries_in records) in
      let s : suc i ≡ suc (length (entries_in records)) = omega (arith, h, w.within, entries-long records.pool.now records.starts.now) in
      (w.same, λ b q. subst (λ (k : ℕ). Emits b 0 (in_records rows k) faults.buffer.now faults.count) s (w.grown b (emits-record rows 0 (emits-no-records rows) q.emits)))
