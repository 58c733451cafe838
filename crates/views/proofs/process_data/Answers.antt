-- `views::process_data` meets its contract.
use Rattle.views.proofs.Views.{process-data-view}
use Rattle.views.proofs.process_data.Goals as goal

pub returns : goal.returns
returns c = process-data-view c.args.p.now c.args.at _ _ _ _ _ c.read-ddi.ensures c.read_u8-properties.ensures c.read_u8-triggers.ensures c.text-designator.ensures.0 c.read-presentation.ensures
