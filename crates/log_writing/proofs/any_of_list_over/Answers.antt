-- `log_writing::any_of_list_over` meets its contract: the flag is that of the ordinals so far.
use Rattle.std.proofs.Common.{refl, arith}
use Rattle.time_log.specs.Judging.{one_over}
use Rattle.log_writing.proofs.Ordinals.{over-turn, none-over}
use Rattle.log_writing.proofs.any_of_list_over.Goals as goal

pub returns-then-logged-gt255 : goal.returns-then-logged-gt255
returns-then-logged-gt255 c = none-over c.args.logged c.args.ordinals.now c.if-logged-gt255.true (λ i. omega (arith, c.type_inv.ordinals i))

pub loop-ordinal-init : goal.loop-ordinal-init
unfolding one_over
loop-ordinal-init c = refl

pub loop-ordinal-preserved : goal.loop-ordinal-preserved
loop-ordinal-preserved c =
    let l = c.loop-ordinal in
    over-turn l.over c.args.logged l.ordinal-index c.args.ordinals.now c.loop-ordinal-test.true l.invariant
