-- `log_writing::records_read_back` meets its contract, which is the claim itself.
use Rattle.log_writing.proofs.Backward.{reads-back}
use Rattle.log_writing.proofs.records_read_back.Goals as goal

pub returns : goal.returns
returns c = reads-back
