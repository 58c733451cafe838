-- `wire::number` meets its contract: x is the number in the bytes passed so far, which end the part, from the highest down.
use mathlib.Core.Path.{◌≡◌, refl, ap, ◌∙◌}
use mathlib.Core.List.{[], ◌∷◌, append-nil}
use Prim.Native.Nat.{suc, ◌+◌, ◌-◌}
use native.Mathlib.Omega.{arith}
use lib.ListN.{length, take, drop}
use Rattle.wire.specs.Bytes.{le_of, number_in}
use Rattle.wire.proofs.Width.{grows, room, turn, shorter, all-passed, part-long}
use Rattle.wire.proofs.number.Goals as goal

pub loop-b-init : goal.loop-b-init
unfolding le_of
loop-b-init c =
    let z : c.args.at + c.args.w - c.args.at ≡ c.args.w = omega arith in
    let e = rw z at c.iter.ensures.rest in
    let start : c.into_iter-b-iterator.result.iter.rest.now ≡ take c.args.w (drop c.args.at c.args.s.now) = cc in
    ([], append-nil _ ∙ start, refl, omega arith)

pub overflow_mul-x : goal.overflow_mul-x
overflow_mul-x c =
    let i = c.loop-b.invariant in
    let n = shorter _ _ _ i.0 _ i.1 c.in-Some.ensures.steps in
    let w = part-long c.args.w c.args.at c.args.s.now c.requires.1 in
    omega (arith, grows (length i.0) c.loop-b.x 0 i.3 (omega arith), room (suc (length i.0)) (omega arith))

pub overflow_add-x : goal.overflow_add-x
overflow_add-x c =
    let i = c.loop-b.invariant in
    let n = shorter _ _ _ i.0 _ i.1 c.in-Some.ensures.steps in
    let w = part-long c.args.w c.args.at c.args.s.now c.requires.1 in
    omega (arith, grows (length i.0) c.loop-b.x c.in-Some.b.now i.3 (omega arith), room (suc (length i.0)) (omega arith))

pub loop-b-preserved : goal.loop-b-preserved
loop-b-preserved c =
    let i = c.loop-b.invariant in
    let t = turn _ _ _ i.0 c.in-Some.b.now c.loop-b.x i.1 c.in-Some.ensures.steps i.2 in
    (c.in-Some.b.now ∷ i.0, t.0, t.1, grows (length i.0) c.loop-b.x c.in-Some.b.now i.3 (omega arith))

pub returns : goal.returns
unfolding number_in
returns c =
    let i = c.loop-b.invariant in
    let e = all-passed _ _ i.0 i.1 c.in-None.ensures.steps.0 in
    (i.2 ∙ ap le_of e, rw (ap length e ∙ part-long c.args.w c.args.at c.args.s.now c.requires.1) at i.3)
