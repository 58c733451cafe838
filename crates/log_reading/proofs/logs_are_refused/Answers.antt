-- `log_reading::logs_are_refused` meets its contract, which is the claim itself.
use Rattle.log_reading.proofs.Torn.{logs-are-refused}
use Rattle.log_reading.proofs.logs_are_refused.Goals as goal

pub returns : goal.returns
returns c = logs-are-refused
