-- `views::property` meets its contract.
use mathlib.Core.Path.{◌∙◌}
use mir.Syntax.{w32}
use mir.ValLaws.{to_z-of_z}
use Rattle.views.proofs.Views.{property-view}
use Rattle.views.proofs.property.Goals as goal

pub returns : goal.returns
returns c = property-view c.args.p.now c.args.at _ _ _ _ c.read-ddi.ensures (to_z-of_z w32 c.read-value.result (record { sfits = c.read-value.type_inv }) ∙ c.read-value.ensures) c.text-designator.ensures.0 c.read-presentation.ensures
