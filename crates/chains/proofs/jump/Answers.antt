-- `chains::jump` meets its contract: for the numbers from r on the steps are doubled.
use Prim.Native.Nat.{◌-◌}
use native.Mathlib.Omega.{arith}
use lib.ListN.{length}
use Rattle.chains.proofs.Jumping.{jump-start, jump-more, jump_end}
use Rattle.chains.proofs.jump.Goals as goal

pub loop-r-init : goal.loop-r-init
loop-r-init c = let ups = c.args.ups.now in jump-start (length ups - 1) ups c.requires.2 c.requires.3

pub loop-r-preserved : goal.loop-r-preserved
loop-r-preserved c =
    let before = c.args.ups.now in
    let l = c.loop-r in
    jump-more (length before - 1) before l.ups l.ended (l.r - 1) (omega (arith, c.loop-r-test.true)) (omega (arith, c.requires.0)) l.invariant

pub returns : goal.returns
returns c =
    let before = c.args.ups.now in
    let l = c.loop-r in
    jump_end (length before - 1) before l.ups l.ended (l.r - 1) (omega (arith, c.loop-r-test.false)) c.requires.2 l.invariant
