-- `views::value_presentation` meets its contract.
use mathlib.Core.Path.{◌∙◌}
use mir.Syntax.{w32}
use mir.ValLaws.{to_z-of_z}
use Rattle.views.proofs.Views.{presentation-view}
use Rattle.views.proofs.value_presentation.Goals as goal

pub returns : goal.returns
returns c = presentation-view c.args.p.now c.args.at _ _ _ _ (to_z-of_z w32 c.read-offset.result (record { sfits = c.read-offset.type_inv }) ∙ c.read-offset.ensures) c.read-scale.ensures c.read_u8-decimals.ensures c.text-unit.ensures.0
