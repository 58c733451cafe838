-- `text::is_sound_in` meets its contract.
use mathlib.Core.Path.{sym}
use Prim.Native.Nat.{◌-◌}
use native.Mathlib.Omega.{arith}
use lib.ListN.{take, drop, length-take}
use Rattle.text.proofs.Examining.{sound-single}
use Rattle.text.proofs.Words.{bytes_of}
use Rattle.text.proofs.is_sound_in.Goals as goal

pub returns-then-from-to : goal.returns-then-from-to
returns-then-from-to c =
    let a = c.args in
    let n = a.to - a.from in
    let s = drop a.from a.p.now in
    sym (sound-single (take n s) (bytes_of a.p.now a.from n (λ k l. absurd (omega (arith, l, c.if-from-to.true)))) (omega (arith, length-take n s, c.if-from-to.true)))

pub returns-then-is_single : goal.returns-then-is_single
returns-then-is_single c =
    let a = c.args in
    let n = a.to - a.from in
    let s = drop a.from a.p.now in
    let w = c.has_window.ensures c.if-has_window.true in
    sym (sound-single (take n s) (bytes_of a.p.now a.from n (c.is_single.ensures c.if-is_single.true)) (omega (arith, length-take n s, w.1)))
