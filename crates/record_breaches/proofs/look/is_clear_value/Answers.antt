-- `record_breaches::look::is_clear_value` meets its contract.
use mathlib.Core.Path.{refl, sym, subst, ◌∙◌}
use native.Mathlib.Omega.{arith}
use lib.ListN.{get_or}
use Rattle.records.specs.declared.ValuePresentation.{ValuePresentation}
use Rattle.views.specs.Fields.{presentation_of}
use Rattle.faults.specs.Rows.{AllClear}
use Rattle.rules.specs.Table.{value_rows}
use Rattle.rules.proofs.Truth.{both, untrue}
use Rattle.field_rules.proofs.ByKind.{value-rows}
use Rattle.field_rules.proofs.Clearing.{value-clear}
use Rattle.record_breaches.specs.Others.{pool_around, records_around}
use Rattle.record_breaches.proofs.Rows.{record-looked}
use Rattle.record_breaches.proofs.Others.{starts_around, few, starts-read}
use Rattle.record_breaches.proofs.look.is_clear_value.Goals as goal

pub offset_bounds-records-other : goal.offset_bounds-records-other
offset_bounds-records-other c = omega (arith, few c.args.other.now)

pub returns-then-p-at : goal.returns-then-p-at
returns-then-p-at c t = untrue t

pub is_own-own-requires : goal.is_own-own-requires
is_own-own-requires c e = omega (arith, e, c.requires)

pub returns : goal.returns
returns c t =
    let r = c.args.other.now in
    let p = pool_around r in
    let es = records_around r in
    let at = get_or (starts_around r) r.i 0 in
    let v = c.value_presentation-v.result in
    let all = both _ _ t in
    let own = both _ _ all.0 in
    let rows : AllClear (value_rows p (presentation_of p at)) = subst (λ (x : ValuePresentation). AllClear (value_rows p x)) c.value_presentation-v.ensures (value-clear p v (sym c.is_fit_value.ensures ∙ own.1) (sym c.is_sound_in.ensures ∙ all.1)) in
    record-looked p es r.i 5 (sym c.requires ∙ r.told) (rw c.requires at c.is_own-own.ensures own.0) (rw (value-rows p es r.i at (starts-read r) 5 refl (presentation_of p at) refl) rows)
