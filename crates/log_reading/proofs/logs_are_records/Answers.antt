-- `log_reading::logs_are_records` meets its contract, which is the claim itself.
use Rattle.log_reading.proofs.Divided.{logs-are-records}
use Rattle.log_reading.proofs.logs_are_records.Goals as goal

pub returns : goal.returns
returns c = logs-are-records
