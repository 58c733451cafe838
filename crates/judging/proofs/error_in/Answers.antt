-- `judging::error_in` meets its contract: each return is a case of the definition.
use mathlib.Core.Path.{sym, ap, ◌∙◌}
use native.Mathlib.Omega.{arith}
use Rattle.records.specs.Layout.{mark_code}
use Rattle.naming.specs.Entries.{entries_in}
use Rattle.naming.proofs.Names.{names-some, names-few}
use Rattle.queries.specs.Parts.{numbered}
use Rattle.judging.proofs.Erring.{no-command, no_element, element-inside, object-inside, object-missing, object-found}
use Rattle.judging.proofs.error_in.Goals as goal

pub returns-then-not-carries_value : goal.returns-then-not-carries_value
returns-then-not-carries_value c =
    let a = c.args in
    let r = a.names.now.records in
    no-command r.pool.now (entries_in r) a.command.number a.command.element a.command.ddi a.command.value (sym c.carries_value.ensures ∙ c.if-not-carries_value.true)

pub returns-in_default : goal.returns-in_default
returns-in_default c =
    let a = c.args in
    let r = a.names.now.records in
    no_element r.pool.now (entries_in r) a.command.number a.command.element a.command.ddi a.command.value (sym c.carries_value.ensures ∙ c.if-not-carries_value.false) (sym c.find_element.ensures ∙ ap numbered c.in_default.is)

pub offset_bounds-starts-owner : goal.offset_bounds-starts-owner
offset_bounds-starts-owner c =
    let a = c.args in
    let r = a.names.now.records in
    omega (arith, names-few a.names.now, element-inside r.pool.now r.starts.now (names-some a.names.now) a.command.number a.command.element a.command.ddi a.command.value (sym c.carries_value.ensures ∙ c.if-not-carries_value.false) c.in-Some.owner (sym c.find_element.ensures ∙ ap numbered c.in-Some.is))

pub bounds-starts-owner : goal.bounds-starts-owner
bounds-starts-owner c =
    let a = c.args in
    let r = a.names.now.records in
    omega (arith, element-inside r.pool.now r.starts.now (names-some a.names.now) a.command.number a.command.element a.command.ddi a.command.value (sym c.carries_value.ensures ∙ c.if-not-carries_value.false) c.in-Some.owner (sym c.find_element.ensures ∙ ap numbered c.in-Some.is))

pub returns-in_default-find_object : goal.returns-in_default-find_object
returns-in_default-find_object c =
    let a = c.args in
    let r = a.names.now.records in
    object-missing r.pool.now r.starts.now (names-some a.names.now) a.command.number a.command.element a.command.ddi a.command.value (sym c.carries_value.ensures ∙ c.if-not-carries_value.false) c.in-Some.owner (sym c.find_element.ensures ∙ ap numbered c.in-Some.is) (sym c.find_object.ensures ∙ ap numbered c.in_default-find_object.is)

pub offset_bounds-starts-object : goal.offset_bounds-starts-object
offset_bounds-starts-object c =
    let a = c.args in
    let r = a.names.now.records in
    omega (arith, names-few a.names.now, object-inside r.pool.now r.starts.now (names-some a.names.now) a.command.number a.command.element a.command.ddi a.command.value (sym c.carries_value.ensures ∙ c.if-not-carries_value.false) c.in-Some.owner (sym c.find_element.ensures ∙ ap numbered c.in-Some.is) c.in-Some-find_object.object (sym c.find_object.ensures ∙ ap numbered c.in-Some-find_object.is))

pub bounds-starts-object : goal.bounds-starts-object
bounds-starts-object c =
    let a = c.args in
    let r = a.names.now.records in
    omega (arith, object-inside r.pool.now r.starts.now (names-some a.names.now) a.command.number a.command.element a.command.ddi a.command.value (sym c.carries_value.ensures ∙ c.if-not-carries_value.false) c.in-Some.owner (sym c.find_element.ensures ∙ ap numbered c.in-Some.is) c.in-Some-find_object.object (sym c.find_object.ensures ∙ ap numbered c.in-Some-find_object.is))

pub returns : goal.returns
returns c =
    let a = c.args in
    let r = a.names.now.records in
    object-found r.pool.now r.starts.now (names-some a.names.now) a.command.number a.command.element a.command.ddi a.command.value (sym c.carries_value.ensures ∙ c.if-not-carries_value.false) c.in-Some.owner (sym c.find_element.ensures ∙ ap numbered c.in-Some.is) c.in-Some-find_object.object (sym c.find_object.ensures ∙ ap numbered c.in-Some-find_object.is)
    (mark_code c.mark.result) c.bits_of-bits.result.properties c.bits_of-bits.result.triggers c.object_error.result (ap mark_code c.mark.ensures) c.bits_of-bits.ensures.0 c.bits_of-bits.ensures.1 (c.object_error.ensures)
