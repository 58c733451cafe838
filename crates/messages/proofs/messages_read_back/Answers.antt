-- `messages::messages_read_back` meets its contract, which is the claim itself.
use Rattle.messages.proofs.Backward.{reads-back}
use Rattle.messages.proofs.messages_read_back.Goals as goal

pub returns : goal.returns
returns c = reads-back
