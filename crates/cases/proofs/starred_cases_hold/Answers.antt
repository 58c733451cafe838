-- `cases::starred_cases_hold` meets its contract, by computation.
use Rattle.cases.proofs.Computed.{computed}
use Rattle.cases.proofs.starred_cases_hold.Goals as goal

pub returns : goal.returns
returns c = computed.0
