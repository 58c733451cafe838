-- `cases::worked_objects_hold` meets its contract, by computation.
use Rattle.cases.proofs.Computed.{computed}
use Rattle.cases.proofs.worked_objects_hold.Goals as goal

pub returns : goal.returns
returns c = computed.2
