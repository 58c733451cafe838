-- `reference_rules::is_wrong_entry` meets its contract.
use Rattle.reference_rules.proofs.is_wrong_entry.Goals as goal

pub returns : goal.returns
returns c = rw c.is_data_at.ensures
