-- `record_breaches::look::is_clear_element` meets its contract.
use mathlib.Core.Path.{sym, ◌∙◌}
use Rattle.rules.proofs.Truth.{both, untrue}
use Rattle.field_rules.proofs.Clearing.{fields-clear}
use Rattle.record_breaches.specs.Elements.{pool_of}
use Rattle.record_breaches.proofs.look.is_clear_element.Goals as goal

pub returns-then-not-is_parent-is_fit_element : goal.returns-then-not-is_parent-is_fit_element
returns-then-not-is_parent-is_fit_element c t = untrue t

pub returns : goal.returns
returns c t =
    let e = c.args.element.now in
    let all = both _ _ (c.if-not-is_parent-is_fit_element.false) in
    let own = both _ _ all.0 in
    (fields-clear (pool_of e) e.fields (sym c.is_fit_element.ensures ∙ own.1) (sym c.is_sound_in-sound.ensures ∙ all.1), sym c.is_parent.ensures ∙ own.0, c.is_clear_entries.ensures t)
