-- `field_rules::whole::lacks_machine` meets its contract.
use mathlib.Core.Path.{◌≡◌, refl, ap, ◌∙◌}
use mathlib.Core.Bool.{Bool, true, false, cond, not}
use Prim.Native.Nat.{ℕ, ◌-◌, ◌<◌}
use native.Mathlib.Omega.{arith}
use lib.Dec.{eqb}
use lib.ListN.{length, get_or}
use Rattle.records.specs.Layout.{mark_code, mark_of, three}
use Rattle.views.specs.Fields.{element_of}
use Rattle.pool.proofs.Starts.{entries-long}
use Rattle.naming.specs.declared.RecordList.{RecordList}
use Rattle.naming.specs.Naming.{type_key}
use Rattle.naming.specs.Entries.{entries_in}
use Rattle.naming.proofs.Starts.{kind-is, start-read}
use Rattle.field_rules.proofs.Placed.{any-first}
use Rattle.field_rules.proofs.whole.lacks_machine.Goals as goal

module _ (records : RecordList) where
  -- whether a device element of type 1 starts at a place
  abbrev test : ℕ → Bool
  test at = eqb (cond (eqb (mark_code (mark_of (three records.pool.now at))) 2) (element_of records.pool.now at).element_type 256) 1

  same : (i : ℕ) → i < length records.starts.now - 1 → test (get_or records.starts.now i 0) ≡ eqb (type_key records.pool.now (entries_in records) i) 1
  same i b =
      let p = records.pool.now in
      let starts = records.starts.now in
      rw (kind-is p starts i (omega arith), start-read p starts i (omega arith))

twice : (b : Bool) → not (not b) ≡ b
twice true = refl
twice false = refl

pub returns : goal.returns
returns c =
    let r = c.args.records.now in
    let found = any-first (test r) r.starts.now (type_key r.pool.now (entries_in r)) 1 (length r.starts.now - 1) (omega arith) (same r) in
    rw (entries-long r.pool.now r.starts.now) (ap not (c.machine_among.ensures ∙ found) ∙ twice _)
