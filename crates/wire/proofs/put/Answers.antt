-- `wire::put` meets its contract: the bytes with those that are still to be written are the final ones.
use mathlib.Core.Path.{◌≡◌, sym, ◌∙◌}
use Prim.Native.Nat.{◌+◌, ◌-◌}
use native.Mathlib.Nat.{sub-zero}
use native.Mathlib.Omega.{arith}
use lib.ListN.{length, take, drop}
use Rattle.wire.specs.Bytes.{bytes_of}
use Rattle.wire.proofs.Width.{step, bytes-long, part-long}
use Rattle.wire.proofs.Laid.{part-laid, whole-laid}
use Rattle.wire.proofs.put.Goals as goal

pub loop-b-init : goal.loop-b-init
loop-b-init c = rw sub-zero

pub loop-b-preserved : goal.loop-b-preserved
loop-b-preserved c =
    let a = c.args in
    let z : a.at + a.w - a.at ≡ a.w = omega arith in
    let n : length (take (a.at + a.w - a.at) (drop a.at a.d.now)) ≡ a.w = rw z (part-long a.w a.at a.d.now c.requires) in
    sym (step c.loop-b.b-items a.w c.loop-b.b-index c.loop-b.rest (omega arith)) ∙ c.loop-b.invariant

pub returns : goal.returns
unfolding bytes_of
returns c =
    let a = c.args in
    let long = bytes-long a.w a.x in
    let z : a.at + a.w - a.at ≡ a.w = omega arith in
    let n : length (take (a.at + a.w - a.at) (drop a.at a.d.now)) ≡ a.w = rw z (part-long a.w a.at a.d.now c.requires) in
    let none : a.w - c.loop-b.b-index ≡ 0 = omega arith in
    let all = rw none at c.loop-b.invariant in
    rw (all ∙ whole-laid _ (bytes_of a.w a.x) (long ∙ sym n)) (part-laid a.d.now (bytes_of a.w a.x) a.at (a.at + a.w - a.at) (rw long c.requires) (long ∙ sym z))
