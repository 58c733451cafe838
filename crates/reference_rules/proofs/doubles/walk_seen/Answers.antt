-- `reference_rules::doubles::walk_seen` meets its contract: the walk over the entries, and inside it the walk over the DDIs kept.
use mathlib.Core.Path.{◌≡◌, refl, sym, ap, ◌∙◌, subst}
use mathlib.Core.List.{[], ◌∷◌}
use Prim.Native.Nat.{ℕ, ◌+◌, ◌-◌, ◌<◌}
use native.Mathlib.Omega.{arith}
use Rattle.faults.specs.Rows.{many}
use Rattle.faults.specs.Adding.{Adds}
use Rattle.faults.specs.declared.FaultList.{FaultList}
use lib.Seq.{get_or-take, length-take-le}
use Rattle.naming.specs.Naming.{tag_of}
use Rattle.rules.specs.Table.{doubled}
use Rattle.reference_rules.specs.Entries.{around, tag_in}
use Rattle.reference_rules.proofs.Listed.{entry-inside}
use Rattle.reference_rules.proofs.Seen.{holds-none, holds-nowhere, among_kept}
use Rattle.reference_rules.proofs.Walking.{walk_start, walk-plain, walk-met, walk-new}
use Rattle.reference_rules.proofs.doubles.walk_seen.Goals as goal

pub entries-init : goal.entries-init
entries-init c =
    let a = c.args in
    walk_start (tag_in a.list.now) a.number a.list.now.size a.seen.now a.faults.now

pub tag_at-tag-requires : goal.tag_at-tag-requires
tag_at-tag-requires c = rw c.named_at.ensures (entry-inside c.args.list.now c.entries.m)

pub entries-preserved-then-tag-eq0 : goal.entries-preserved-then-tag-eq0
entries-preserved-then-tag-eq0 c =
    let a = c.args in
    let v = c.entries in
    let list = a.list.now in
    let is = c.tag_at-tag.ensures.0 ∙ ap (tag_of list.names.records.pool.now (around list)) c.named_at.ensures in
    walk-plain (tag_in a.list.now) a.number a.list.now.size a.seen.now a.faults.now v.seen v.faults v.kept v.m c.entries-test.true v.invariant (sym is ∙ c.if-tag-eq0.true)

pub loop-known-init : goal.loop-known-init
loop-known-init c = (refl, holds-none)

pub put_if-requires : goal.put_if-requires
put_if-requires c = omega (arith, ap (λ (f : FaultList). f.count) c.loop-known.invariant.0, c.entries.invariant.adds.few, c.entries.invariant.within, c.args.list.now.few, c.requires.1)

pub entries-preserved-then-known-ddi : goal.entries-preserved-then-known-ddi
entries-preserved-then-known-ddi c =
    let a = c.args in
    let v = c.entries in
    let l = c.loop-known in
    let list = a.list.now in
    let is = c.tag_at-tag.ensures.0 ∙ ap (tag_of list.names.records.pool.now (around list)) c.named_at.ensures in
    let long = length-take-le v.kept v.seen (omega (arith, c.entries-test.true, v.invariant.few, v.invariant.long, c.requires.0)) in
    let before : l.known-index < v.kept = omega (arith, c.loop-known-test.true, long) in
    walk-met (tag_in list) a.number list.size a.seen.now a.faults.now v.seen v.faults v.kept v.m c.entries-test.true v.invariant (c.tag_at-tag.result - 1) (2 + v.m) _ (omega (arith, is, c.if-tag-eq0.false)) (record { at = l.known-index; before = before; is = sym (get_or-take v.kept v.seen l.known-index 0 before) ∙ c.if-known-ddi.true }) (omega arith) (rw (← l.invariant.0) c.put_if.ensures)

pub loop-known-preserved : goal.loop-known-preserved
loop-known-preserved c = let l = c.loop-known in (l.invariant.0, holds-nowhere l.invariant.1 c.if-known-ddi.false)

pub bounds-seen-kept : goal.bounds-seen-kept
bounds-seen-kept c = omega (arith, c.entries-test.true, c.entries.invariant.few, c.entries.invariant.long, c.requires.0)

pub entries-preserved : goal.entries-preserved
entries-preserved c =
    let a = c.args in
    let v = c.entries in
    let l = c.loop-known in
    let list = a.list.now in
    let long = length-take-le v.kept v.seen (omega (arith, c.entries-test.true, v.invariant.few, v.invariant.long, c.requires.0)) in
    let end : l.known-index ≡ v.kept = omega (arith, c.loop-known-test.false, l.auto.known-index-end, long) in
    let is = c.tag_at-tag.ensures.0 ∙ ap (tag_of list.names.records.pool.now (around list)) c.named_at.ensures in
    rw l.invariant.0 (walk-new (tag_in list) a.number list.size a.seen.now a.faults.now v.seen v.faults v.kept v.m c.entries-test.true v.invariant (c.tag_at-tag.result - 1) (omega (arith, c.entries-test.true, v.invariant.few, v.invariant.long, c.requires.0)) (omega (arith, is, c.if-tag-eq0.false)) (λ h. l.invariant.1 (rw end (among_kept h))))

pub returns : goal.returns
returns c =
    let a = c.args in
    let v = c.entries in
    let end : v.m ≡ a.list.now.size = omega (arith, c.entries-test.false, v.invariant.within) in
    subst (λ (m : ℕ). Adds a.number (many 12 2 m (doubled (tag_in a.list.now)) ∷ []) m a.faults.now v.faults) end v.invariant.adds
