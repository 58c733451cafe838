-- `field_rules::is_fit_element` meets its contract.
use Rattle.field_rules.proofs.is_fit_element.Goals as goal

pub returns : goal.returns
returns c = rw (← c.is_bad_type.ensures)
