-- `log_reading::take_pairs` meets its contract: the lists with the pairs that are still to be taken are the final ones.
use Rattle.std.proofs.Common.{◌≡◌, ◌+◌, ◌*◌, add-one, arith}
use mir.Syntax.{w32}
use mir.ValLaws.{to_z-of_z}
use Rattle.log_reading.proofs.Runs.{spaced-step, spaced-done, signed-step, signed-done}
use Rattle.log_reading.proofs.take_pairs.Goals as goal

pub loop-k-preserved : goal.loop-k-preserved
loop-k-preserved c =
    let a = c.args in
    let l = c.loop-k in
    let p : a.at + 5 * l.k + 5 ≡ a.at + 5 * (l.k + 1) = omega arith in
    let q : a.at + 5 * l.k + 1 + 5 ≡ a.at + 5 * (l.k + 1) + 1 = omega arith in (
      rw (add-one l.k) (rw (spaced-step 5 a.n l.k a.bytes.now (a.at + 5 * l.k) c.loop-k-test.true, p, add-one l.k) at l.invariant.0),
      rw (to_z-of_z w32 c.signed.result (record { sfits = c.signed.type_inv }), c.signed.ensures, c.number.ensures.0, add-one l.k) (rw (signed-step a.n l.k a.bytes.now (a.at + 5 * l.k + 1) c.loop-k-test.true, q, add-one l.k) at l.invariant.1),
    )

pub returns-clause-ordinals : goal.returns-clause-ordinals
returns-clause-ordinals c =
    let a = c.args in
    let l = c.loop-k in
    rw (spaced-done 5 a.n l.k a.bytes.now (a.at + 5 * l.k) c.loop-k-test.false) at l.invariant.0

pub returns-clause-values : goal.returns-clause-values
returns-clause-values c =
    let a = c.args in
    let l = c.loop-k in
    rw (signed-done a.n l.k a.bytes.now (a.at + 5 * l.k + 1) c.loop-k-test.false) at l.invariant.1
