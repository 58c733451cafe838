-- `record_breaches::put_element` meets its contract.
use mathlib.Core.Path.{refl, sym, ap, ◌∙◌}
use mathlib.Core.Bool.{◌||◌}
use Rattle.faults.proofs.Adding.{adds-clear}
use Rattle.rules.specs.Table.{is_parent_kind, bad_own, repeats}
use Rattle.field_rules.proofs.Clearing.{clear_both}
use Rattle.record_breaches.specs.Elements.{pool_of, around}
use Rattle.record_breaches.proofs.Rows.{record-clear}
use Rattle.record_breaches.proofs.ElementRows.{element-looked}
use Rattle.record_breaches.proofs.Elements.{fields-read, own-id}
use Rattle.record_breaches.proofs.put_element.Goals as goal

pub repeats_id-twice-requires : goal.repeats_id-twice-requires
repeats_id-twice-requires c = c.args.element.now.listed

pub returns-then-is_clear_element : goal.returns-then-is_clear_element
unfolding repeats
returns-then-is_clear_element c =
    let a = c.args in
    let e = a.element.now in
    let seen = c.is_clear_element.ensures c.if-is_clear_element.true in
    let none = clear_both (c.is_bad_id-bad.result || c.repeats_id-twice.result) (a.again || a.endless) c.if-not-faulty.true in
    let rest = clear_both a.again a.endless none.1 in
    adds-clear (record-clear (pool_of e) (around e) e.i 2 (sym e.is_element) c.is_bad_id-bad.result c.repeats_id-twice.result (c.is_bad_id-bad.ensures ∙ ap (bad_own 2) (own-id e c.id_at.result c.id_at.ensures)) c.repeats_id-twice.ensures none.0
    (element-looked (pool_of e) (around e) e.i e.at 2 e.starts refl e.fields (fields-read e) e.parent e.parent_named a.again a.endless c.requires.0 c.requires.1 seen.0 (ap is_parent_kind (sym e.kind_told) ∙ seen.1) rest.0 rest.1 seen.2))

pub put_faults-requires : goal.put_faults-requires
unfolding repeats
put_faults-requires c =
    let e = c.args.element.now in
    (c.is_bad_id-bad.ensures ∙ ap (bad_own 2) (own-id e c.id_at.result c.id_at.ensures), c.repeats_id-twice.ensures, c.requires.0, c.requires.1, c.requires.2)
