-- `messages::put_head` meets its contract: two bytes and a number, one after the other.
use mathlib.Core.Path.{◌∙◌}
use native.Mathlib.Omega.{arith}
use Prim.Native.Nat.{◌+◌, ◌*◌, ◌/◌, ◌%◌}
use lib.ListN.{set, length-set}
use Rattle.messages.specs.Layout.{head_bytes}
use Rattle.messages.proofs.Laying.{head-laid}
use Rattle.messages.proofs.put_head.Goals as goal

pub bounds-to-1 : goal.bounds-to-1
bounds-to-1 c = rw (length-set c.args.to.now 0 (c.args.element % 16 * 16 + c.args.command)) (omega (arith, c.requires.0))

pub shape_of-to : goal.shape_of-to
shape_of-to c = c.write.auto.d ∙ length-set (set c.args.to.now 0 (c.args.element % 16 * 16 + c.args.command)) 1 (c.args.element / 16) ∙ length-set c.args.to.now 0 (c.args.element % 16 * 16 + c.args.command)

pub returns : goal.returns
unfolding head_bytes
returns c = c.write.ensures.1 ∙ head-laid c.args.to.now c.args.command c.args.element c.args.ddi (c.args.element % 16 * 16 + c.args.command) (c.args.element / 16) c.requires.0
