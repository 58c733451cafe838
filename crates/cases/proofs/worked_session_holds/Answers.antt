-- `cases::worked_session_holds` meets its contract, by computation.
use Rattle.cases.proofs.Computed.{computed}
use Rattle.cases.proofs.worked_session_holds.Goals as goal

pub returns : goal.returns
returns c = computed.1
