-- `time_log::judging::any_over` meets its contract: the result is that of the ordinals that are still to be looked at.
use Rattle.std.proofs.Common.{◌+◌, ◌-◌, refl, ◌∙◌, arith}
use Rattle.time_log.proofs.Runs.{over-high, four-here, four-next}
use Rattle.time_log.proofs.judging.any_over.Goals as goal

pub returns-then-logged-gt255 : goal.returns-then-logged-gt255
returns-then-logged-gt255 c =
    let a = c.args in
    over-high a.logged 5 a.n a.s.now a.at (λ i. omega (arith, c.type_inv.s i)) c.if-logged-gt255.true

pub loop-left-init : goal.loop-left-init
loop-left-init c = (refl, refl, refl)

pub returns-then-limit-s : goal.returns-then-limit-s
returns-then-limit-s c =
    let a = c.args in
    let l = c.loop-left in
    four-here a.logged l.left a.s.now l.p c.loop-left-test.true (rw l.invariant.2 at c.if-limit-s.true) ∙ l.invariant.0

pub loop-left-preserved : goal.loop-left-preserved
loop-left-preserved c =
    let a = c.args in
    let l = c.loop-left in (
      four-next a.logged l.left (l.left - 4) a.s.now l.p (l.p + 20) (omega arith) refl (rw l.invariant.2 at c.if-limit-s.false) ∙ l.invariant.0,
      omega arith,
      l.invariant.2,
    )

pub returns : goal.returns
returns c = (rw c.loop-left.invariant.2 at c.last_over.ensures) ∙ c.loop-left.invariant.0
