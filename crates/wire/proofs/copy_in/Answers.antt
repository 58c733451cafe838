-- `wire::copy_in` meets its contract: the bytes with those that are still to be copied are the final ones.
use mathlib.Core.Path.{◌≡◌, refl, sym, ◌∙◌}
use mathlib.Core.List.{[]}
use native.Mathlib.Nat.{add-zero}
use native.Mathlib.Omega.{arith}
use lib.ListN.{drop, length-set, drop_of_length-le}
use Rattle.wire.proofs.Laid.{lay_step}
use Rattle.wire.proofs.copy_in.Goals as goal

pub loop-i-init : goal.loop-i-init
loop-i-init c = (refl, rw add-zero)

pub loop-i-preserved : goal.loop-i-preserved
loop-i-preserved c =
    let a = c.args in
    let l = c.loop-i in
    (simp length-set l.invariant.0, sym (lay_step l.to a.from.now a.at l.i (omega arith)) ∙ l.invariant.1)

pub returns : goal.returns
returns c =
    let a = c.args in
    let l = c.loop-i in
    let z : drop l.i a.from.now ≡ [] = drop_of_length-le a.from.now {i = l.i} (omega arith) in
    rw z at l.invariant.1
