-- `views::device` meets its contract.
use Rattle.views.proofs.Views.{device-view}
use Rattle.views.proofs.device.Goals as goal

pub returns : goal.returns
returns c = device-view c.args.p.now c.args.at _ _ _ _ _ c.text-designator.ensures.0 c.text-version.ensures.0 c.read-name.ensures c.text-serial.ensures.0 c.text-extended.ensures.0
