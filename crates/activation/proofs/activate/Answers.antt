-- `activation::activate`: the list that activating leaves gives the table of the pool that was checked, if one was.
use Rattle.std.proofs.Common.{◌∙◌, length}
use mathlib.Core.Path.{sym, subst}
use Rattle.session.specs.Calls.{Told}
use Rattle.activation.specs.Activating.{Sized}
use Rattle.activation.proofs.Filled.{records-filled}
use Rattle.activation.proofs.Settled.{answer-sized}
use Rattle.activation.proofs.activate.Goals as goal

pub gather-requires : goal.gather-requires
gather-requires c =
    let a = c.args in
    let d = c.activate_in-activated in
    (records-filled d.new.starts d.result.records a.table.now a.s a.staging.now (length a.kept.now) d.ensures.2 d.ensures.3).fillable

pub returns : goal.returns
returns c =
    let a = c.args in
    let d = c.activate_in-activated in
    let so = records-filled d.new.starts d.result.records a.table.now a.s a.staging.now (length a.kept.now) d.ensures.2 d.ensures.3 in
    (d.ensures.0, d.ensures.1, c.gather.ensures ∙ so.same, subst (λ (t : Told). Sized t) (sym d.ensures.0) (answer-sized a.s a.staging.now a.kept.now (length a.table.now)))
