-- `views::device_element` meets its contract.
use Rattle.views.proofs.Views.{element-view}
use Rattle.views.proofs.device_element.Goals as goal

pub returns : goal.returns
returns c = element-view c.args.p.now c.args.at _ _ _ _ _ c.read_u8-element_type.ensures c.text-designator.ensures.0 c.read-number.ensures c.read-parent.ensures c.read-entries.ensures
