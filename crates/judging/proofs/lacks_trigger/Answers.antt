-- `judging::lacks_trigger` meets its contract: bit 0 is the byte's own remainder, and commands 6 and 7 are two rows.
use native.Mathlib.Omega.{arith}
use mathlib.Core.Path.{◌≡◌}
use mathlib.Core.Bool.{Bool, false, ◌&&◌, ◌||◌, or_assoc, or-false, and-or_distrib_right}
use Prim.Native.Nat.{ℕ, ◌/◌, ◌%◌}
use Rattle.judging.proofs.lacks_trigger.Goals as goal

lowest : (x : ℕ) → x / 1 % 2 ≡ x % 2
lowest x = omega arith

-- two rows with the same bit in one test
two-rows : (a b bit rest : Bool) → ((a || b) && bit) || rest ≡ (a && bit) || ((b && bit) || (rest || false))
two-rows a b bit rest = simp (and-or_distrib_right, or_assoc, or-false)

pub returns : goal.returns
returns c = rw (lowest c.args.triggers, two-rows)
