-- `records::view::id` meets its contract.
use Rattle.records.specs.Places.{id_of}
use Rattle.records.proofs.view.id.Goals as goal

pub returns : goal.returns
unfolding id_of
returns c = cc
