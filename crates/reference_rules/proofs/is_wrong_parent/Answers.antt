-- `reference_rules::is_wrong_parent` meets its contract.
use Rattle.reference_rules.proofs.is_wrong_parent.Goals as goal

pub returns : goal.returns
returns c = rw (c.is_parent.ensures, ← c.kind_at.ensures)
