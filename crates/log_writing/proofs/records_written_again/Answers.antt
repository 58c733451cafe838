-- `log_writing::records_written_again` meets its contract, which is the claim itself.
use Rattle.log_writing.proofs.Again.{written-again}
use Rattle.log_writing.proofs.records_written_again.Goals as goal

pub returns : goal.returns
returns c = written-again
