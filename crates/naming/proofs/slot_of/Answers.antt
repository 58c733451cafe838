-- `naming::slot_of` meets its contract.
use Rattle.naming.specs.Chained.{slot}
use borrow.Author.Rules.{rules}
use Rattle.naming.proofs.slot_of.Goals as goal

pub returns : goal.returns
unfolding slot
returns c = search rules
