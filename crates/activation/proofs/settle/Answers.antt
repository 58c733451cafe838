-- `activation::settle` meets its contract: each return is a case of the definition. The count and the rows are those of the check.
use mathlib.Core.Path.{◌≡◌, sym, ap, ◌∙◌}
use Rattle.pool.specs.Answer.{answer, refusal_answer}
use Rattle.checker.specs.Checking.{verdict_of, records_in, check_of}
use Rattle.std.proofs.Common.{length}
use Rattle.session.specs.Calls.{new_session, done, step_of}
use Rattle.session.specs.declared.Session.{Session}
use Rattle.activation.specs.Activating.{decided, settled}
use Rattle.activation.proofs.Settled.{unkept, faulted, kept-now}
use Rattle.activation.proofs.settle.Goals as goal

pub returns-in-Err : goal.returns-in-Err
unfolding settled
returns-in-Err c =
    let a = c.args in
    let e : refusal_answer c.in-Err.refusal ≡ check_of a.p.now a.room = sym (ap verdict_of c.in-Err.is) ∙ c.check_by.ensures.0 in (
      ap step_of c.filling.ensures.0 ∙ c.unread.ensures a.p.now ∙ ap (decided a.s a.p.now) e,
      unkept a.p.now a.room c.in-Err.refusal a.kept.now e,
      c.filling.ensures.1 ∙ sym (ap records_in c.in-Err.is) ∙ c.check_by.ensures.1,
      c.check_by.ensures.2,
    )

pub returns-then-checked-ne0 : goal.returns-then-checked-ne0
returns-then-checked-ne0 c =
    let a = c.args in
    let k = c.in-Ok.checked in
    let e : answer 0 k.faults ≡ check_of a.p.now a.room = sym (ap verdict_of c.in-Ok.is) ∙ c.check_by.ensures.0 in
    let r = faulted a.s a.p.now a.room k e c.if-checked-ne0.true (step_of c.filling-then-checked-ne0.result.answer) c.end_stage.result c.check_by.new.faults a.kept.now c.end_stage.ensures c.check_by.ensures.3 (ap step_of c.filling-then-checked-ne0.ensures.0 ∙ c.refuse-step.ensures) in
    (r.0, r.1, c.filling-then-checked-ne0.ensures.1 ∙ sym (ap records_in c.in-Ok.is) ∙ c.check_by.ensures.1, c.check_by.ensures.2)

pub returns : goal.returns
returns c =
    let a = c.args in
    let k = c.in-Ok.checked in
    let e : answer 0 k.faults ≡ check_of a.p.now a.room = sym (ap verdict_of c.in-Ok.is) ∙ c.check_by.ensures.0 in
    let r = kept-now a.s a.p.now a.room k e c.if-checked-ne0.false a.kept.now c.copy.new.to c.requires.1 c.copy.ensures.1 in
    let begun : (n : Session) → n ≡ new_session → done (record { announced = n.announced; received = n.received; kept = length a.p.now; stage = n.stage; active = 1 }) ≡ settled a.s a.p.now a.room
    = λ n m. ap (λ (n : Session). done (record { announced = n.announced; received = n.received; kept = length a.p.now; stage = n.stage; active = 1 })) m ∙ r.0 in
    (ap step_of c.filling-2.ensures.0 ∙ begun c.new.result c.new.ensures, r.1, c.filling-2.ensures.1 ∙ sym (ap records_in c.in-Ok.is) ∙ c.check_by.ensures.1, c.check_by.ensures.2)
