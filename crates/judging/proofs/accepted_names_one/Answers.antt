-- `judging::accepted_names_one` meets its contract: it is the claim itself.
use Rattle.judging.proofs.Unique.{accepted-one}
use Rattle.judging.proofs.accepted_names_one.Goals as goal

pub returns : goal.returns
returns c = accepted-one
