-- `messages::put_answer` meets its contract: four bytes, one after the other.
use native.Mathlib.Omega.{arith}
use Prim.Native.Nat.{◌+◌}
use lib.ListN.{set, length-set}
use Rattle.messages.proofs.put_answer.Goals as goal

pub bounds-to-5 : goal.bounds-to-5
bounds-to-5 c = rw (length-set c.args.to.now 4 c.args.errors) (omega (arith, c.requires.0))

pub bounds-to-6 : goal.bounds-to-6
bounds-to-6 c = rw (length-set (set c.args.to.now 4 c.args.errors) 5 (240 + c.args.answered), length-set c.args.to.now 4 c.args.errors) (omega (arith, c.requires.0))
