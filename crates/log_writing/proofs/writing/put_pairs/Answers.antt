-- `log_writing::writing::put_pairs` meets its contract: the bytes with the pairs that are still to be written are the final ones.
use Rattle.std.proofs.Common.{◌≡◌, ◌+◌, ◌*◌, ◌∙◌, arith}
use mir.Syntax.{w32}
use mir.ValLaws.{to_z-of_z}
use Rattle.log_writing.proofs.Laying.{pair-laid, pairs-done}
use Rattle.log_writing.proofs.writing.put_pairs.Goals as goal

pub loop-k-preserved : goal.loop-k-preserved
loop-k-preserved c =
    let a = c.args in
    let l = c.loop-k in
    let p : a.at + 5 * l.k + 5 ≡ a.at + 5 * (l.k + 1) = omega arith in
    (rw p at (pair-laid l.to _ a.ordinals.now a.values.now (a.at + 5 * l.k) l.k a.n c.loop-k-test.true (rw (c.bits.ensures, to_z-of_z w32 _ (record { sfits = c.bits-arg-1.given })) at c.put.ensures))) ∙ l.invariant

pub returns : goal.returns
returns c =
    let a = c.args in
    let l = c.loop-k in
    rw (pairs-done a.ordinals.now a.values.now l.k a.n c.loop-k-test.false) at l.invariant
