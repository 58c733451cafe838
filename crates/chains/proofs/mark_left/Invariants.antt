-- `chains::mark_left` meets its contract: among the records passed so far exactly these are marked.
use mathlib.Core.Bool.{Bool, not}
use mathlib.Core.List.{List}
use Prim.Native.Nat.{ℕ}
use lib.Dec.{eqb}
use lib.ListN.{get_or}
use Rattle.chains.specs.Noted.{HitsMarked}
use Rattle.chains.proofs.mark_left.Given as goal

-- something is left under number i
abbrev pub leaves : List ℕ → ℕ → Bool
leaves left i = not (eqb (get_or left i 0) 0)

abbrev pub invariant-loop-i : goal.invariant-loop-i
invariant-loop-i l = HitsMarked (leaves l.left) l.i l.marks
