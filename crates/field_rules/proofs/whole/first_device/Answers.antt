-- `field_rules::whole::first_device` meets its contract.
use mathlib.Core.Logic.{◌⊎◌, inl, inr, ⊎_elim}
use mathlib.Core.Path.{◌≡◌, refl, sym, ap, ◌∙◌}
use mathlib.Core.Bool.{Bool}
use Prim.Native.Nat.{ℕ, ◌+◌, ◌-◌, ◌<◌}
use native.Mathlib.Omega.{arith}
use lib.Dec.{eqb}
use lib.ListN.{length, get_or}
use Rattle.std.proofs.Common.{Option, Some, None}
use Rattle.std.proofs.Common.{rules}
use Rattle.records.specs.Layout.{mark_code, mark_of, three}
use Rattle.pool.proofs.Starts.{entries-long}
use Rattle.naming.specs.declared.RecordList.{RecordList}
use Rattle.naming.specs.Records.{kind_at}
use Rattle.naming.specs.Entries.{entries_in}
use Rattle.naming.proofs.First.{to_none}
use Rattle.naming.proofs.Looking.{first_found}
use Rattle.naming.proofs.Names.{records-few}
use Rattle.naming.proofs.Starts.{kind-is}
use Rattle.field_rules.proofs.Placed.{placed-some, placed-none}
use Rattle.field_rules.proofs.whole.first_device.Goals as goal

module _ (records : RecordList) where
  -- whether a device starts at a place
  abbrev test : ℕ → Bool
  test at = eqb (mark_code (mark_of (three records.pool.now at))) 1

  same : (i : ℕ) → i < length records.starts.now - 1 → test (get_or records.starts.now i 0) ≡ eqb (kind_at (entries_in records) i) 1
  same i b = ap (λ (k : ℕ). eqb k 1) (kind-is records.pool.now records.starts.now i (omega arith))

pub map_or-requires : goal.map_or-requires
map_or-requires c x is =
    let r = c.args.records.now in
    let s = placed-some (test r) r.starts.now (kind_at (entries_in r)) 1 (length r.starts.now - 1) (omega arith) (same r) x (sym c.device_among.ensures ∙ is) in
    (λ _ _. omega (arith, s.0, records-few r), λ _ _. omega (arith, s.0, records-few r))

by_option : (o : Option ℕ) → (o ≡ None) ⊎ ((i : ℕ) × (o ≡ Some i))
by_option None = inl refl
by_option (Some i) = inr (i, refl)

pub returns : goal.returns
returns c =
    let r = c.args.records.now in
    ⊎_elim
    (λ is.
    let told = rw is at c.map_or.ensures in
    let s = placed-none (test r) r.starts.now (kind_at (entries_in r)) 1 (length r.starts.now - 1) (omega arith) (same r) (sym c.device_among.ensures ∙ is) in
    rw (entries-long r.pool.now r.starts.now) (told ∙ sym (to_none (kind_at (entries_in r)) 1 (length r.starts.now - 1) s)))
    (λ q.
    let told = rw q.1 at c.map_or.ensures in
    let s = placed-some (test r) r.starts.now (kind_at (entries_in r)) 1 (length r.starts.now - 1) (omega arith) (same r) q.0 (sym c.device_among.ensures ∙ q.1) in
    let is : c.map_or.result ≡ q.0 + 1 = search rules in
    is ∙ first_found (kind_at (entries_in r)) 1 (length (entries_in r)) q.0 (omega (arith, s.0, entries-long r.pool.now r.starts.now)) s.2 s.1)
    (by_option c.device_among.result)
