-- `log_reading::cut_is_forty` meets its contract, which is the claim itself.
use Rattle.log_reading.proofs.Cuts.{cut-is-forty}
use Rattle.log_reading.proofs.cut_is_forty.Goals as goal

pub returns : goal.returns
returns c = cut-is-forty
