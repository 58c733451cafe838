-- `faults::objects::name_all` meets its contract: what is still to be done leads to the whole, and the IDs at hand are those of the record
use mathlib.Core.Path.{◌≡◌, refl, sym, ap, ap₂, ◌∙◌}
use mathlib.Core.List.{[], ◌∷◌}
use Prim.Native.Nat.{ℕ, ◌+◌, ◌-◌, ◌*◌, ◌/◌}
use native.Mathlib.Omega.{arith}
use lib.ListN.{length, get_or}
use Rattle.naming.specs.Entries.{entries_in}
use Rattle.faults.specs.Faults.{record_id, record_parent, width}
use Rattle.faults.specs.Completing.{ids_of, named_from}
use Rattle.faults.specs.declared.objects.Ids.{Ids}
use Rattle.faults.proofs.Completing.{ids-stored, below_next, named_none, named-next}
use Rattle.faults.proofs.objects.name_all.Goals as goal
use Rattle.faults.proofs.objects.name_all.Goals.{then-number-known, else-number-known}

pub loop-i-init : goal.loop-i-init
loop-i-init c =
    let s = c in
    let all : (length s.args.faults.now / width) - 0 ≡ (length s.args.faults.now / width) = omega arith in
    (s.requires, ap (λ (k : ℕ). named_from (entries_in s.args.records.now) 0 k s.args.faults.now) all, refl, refl)

pub overflow_mul-at : goal.overflow_mul-at
overflow_mul-at c = omega (arith, c.loop-i-test.true, c.loop-i.invariant.0.fits)

pub offset_bounds-faults-at : goal.offset_bounds-faults-at
offset_bounds-faults-at c = omega (arith, c.loop-i-test.true, c.loop-i.invariant.0.fits, c.loop-i.auto.faults)

pub bounds-faults-at : goal.bounds-faults-at
bounds-faults-at c = omega (arith, c.loop-i-test.true, c.loop-i.invariant.0.fits)

pub ids_of-ids-requires : goal.ids_of-ids-requires
ids_of-ids-requires c =
    let l = c.loop-i in
    l.invariant.0.listed l.i c.loop-i-test.true

pub loop-i-preserved : goal.loop-i-preserved
loop-i-preserved c =
    let a = c.args in
    let l = c.loop-i in
    let es = entries_in a.records.now in
    let number = get_or l.faults (l.i * width) 0 in
    -- the IDs at hand are those of this fault's record, whether they were just read or known before
    let h : (c.if-number-known.known ≡ number) × (c.if-number-known.ids.id ≡ record_id es number) × (c.if-number-known.ids.parent ≡ record_parent es number) =
    elim c.if-number-known.branch [
      | then-number-known w ↦ (w.known-is, ap (λ (i : Ids). i.id) w.ids-is ∙ w.ids_of-ids.ensures.0, ap (λ (i : Ids). i.parent) w.ids-is ∙ w.ids_of-ids.ensures.1)
      | else-number-known w ↦ (w.known-is ∙ sym w.if-number-known.false, ap (λ (i : Ids). i.id) w.ids-is ∙ l.invariant.2 ∙ ap (record_id es) (sym w.if-number-known.false), ap (λ (i : Ids). i.parent) w.ids-is ∙ l.invariant.3 ∙ ap (record_parent es) (sym w.if-number-known.false))
    ] in
    let stored = ids-stored l.faults (ids_of es number) (l.i * width) c.if-number-known.ids.id c.if-number-known.ids.parent (ap₂ (λ (x y : ℕ). x ∷ y ∷ []) h.1 h.2) in (
      rw stored (below_next (length a.records.now.starts.now) l.faults (length a.faults.now / width) l.i _ _ l.invariant.0),
      ap (named_from es (l.i + 1) ((length a.faults.now / width) - (l.i + 1))) stored ∙ sym (named-next es l.i (length a.faults.now / width) l.faults c.loop-i-test.true) ∙ l.invariant.1,
      h.1 ∙ ap (record_id es) (sym h.0),
      h.2 ∙ ap (record_parent es) (sym h.0),
    )

pub returns : goal.returns
returns c =
    let l = c.loop-i in
    let a = c.args in
    let es = entries_in a.records.now in
    let none : (length a.faults.now / width) - l.i ≡ 0 = omega arith in
    sym (named_none es l.i l.faults) ∙ ap (λ (k : ℕ). named_from es l.i k l.faults) (sym none) ∙ l.invariant.1
