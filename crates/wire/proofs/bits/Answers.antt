-- `wire::bits` meets its contract.
use mathlib.Core.Path.{ap, ◌∙◌}
use mir.Syntax.{w32}
use mir.Val.{of_z}
use mir.ValLaws.{to_z-of_z}
use Rattle.wire.proofs.Complement.{machine-bits}
use Rattle.wire.proofs.bits.Goals as goal

pub returns : goal.returns
returns c = let e = c.cast_unsigned.ensures in e ∙ ap (of_z w32) (to_z-of_z w32 c.args.x c.ranges.x) ∙ machine-bits c.args.x
