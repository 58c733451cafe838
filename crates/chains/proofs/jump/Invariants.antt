-- `chains::jump` meets its contract: for the numbers from r on the steps are doubled.
use Prim.Native.Nat.{◌-◌}
use lib.ListN.{length}
use Rattle.chains.proofs.Jumping.{Jumping}
use Rattle.chains.proofs.jump.Given as goal

abbrev pub invariant-loop-r : goal.invariant-loop-r
invariant-loop-r l = Jumping (length l.initial.ups - 1) l.initial.ups l.ups l.ended (l.r - 1)
