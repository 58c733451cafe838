-- `judging::judge_by` meets its contract.
use mathlib.Core.Path.{sym, ap, ◌∙◌}
use native.Mathlib.Omega.{arith}
use lib.Seq.{length-take-le}
use mir.Syntax.{w32}
use mir.ValLaws.{to_z-of_z}
use Rattle.pool.specs.Answer.{Answer, answer_of, refusal_answer}
use Rattle.pool.proofs.Judged.{refused-number}
use Rattle.judging.proofs.Verdict.{too_large, unread, among-room, among-divided, judged-all}
use Rattle.judging.proofs.judge_by.Goals as goal

pub returns-then-element-gt4095 : goal.returns-then-element-gt4095
returns-then-element-gt4095 c =
    let a = c.args in
    let t = too_large a.p.now a.room a.command a.element a.ddi a.value c.if-element-gt4095.true in
    (t.0, t.1, λ l. absurd (omega (arith, c.if-element-gt4095.true, l)))

pub overflow_add-records : goal.overflow_add-records
overflow_add-records c =
    let a = c.args in
    let read = sym (ap answer_of c.in-Ok.is) ∙ c.list_for.ensures.0 in
    omega (arith, among-room a.p.now a.room a.command a.element a.ddi a.value c.if-element-gt4095.false _ _ read c.list_for.ensures.1, c.list_for.auto, c.well_formed)

pub slice_bounds-records-end : goal.slice_bounds-records-end
slice_bounds-records-end c =
    let a = c.args in
    let read = sym (ap answer_of c.in-Ok.is) ∙ c.list_for.ensures.0 in
    among-room a.p.now a.room a.command a.element a.ddi a.value c.if-element-gt4095.false _ _ read c.list_for.ensures.1

pub slice_bounds-records-end-in-Ok : goal.slice_bounds-records-end-in-Ok
slice_bounds-records-end-in-Ok c =
    let a = c.args in
    let read = sym (ap answer_of c.in-Ok.is) ∙ c.list_for.ensures.0 in
    sym (length-take-le _ _ (among-room a.p.now a.room a.command a.element a.ddi a.value c.if-element-gt4095.false _ _ read c.list_for.ensures.1))

pub invariant_of-records : goal.invariant_of-records
invariant_of-records c =
    let a = c.args in
    let read = sym (ap answer_of c.in-Ok.is) ∙ c.list_for.ensures.0 in
    record { divided = among-divided a.p.now a.room a.command a.element a.ddi a.value c.if-element-gt4095.false _ _ read c.list_for.ensures.1 }

pub returns-in-Ok : goal.returns-in-Ok
returns-in-Ok c =
    let a = c.args in
    let read = sym (ap answer_of c.in-Ok.is) ∙ c.list_for.ensures.0 in
    let t = judged-all a.p.now a.room a.command a.element a.ddi a.value c.if-element-gt4095.false _ _ read c.list_for.ensures.1 _ (rw (to_z-of_z w32 a.value c.ranges.value) at c.judge_among.ensures) in
    (t.0, t.1, λ l. c.list_for.ensures.1)

pub returns-in-Err : goal.returns-in-Err
returns-in-Err c =
    let a = c.args in
    let reason = c.in-Err.reason in
    let same = ap (λ (x : Answer). x.number) (sym (ap answer_of c.in-Err.is) ∙ c.list_for.ensures.0) in
    let t = unread a.p.now a.room a.command a.element a.ddi a.value c.if-element-gt4095.false (refusal_answer reason).number same (refused-number reason) in
    (t.0, t.1, λ l. c.list_for.ensures.1)
