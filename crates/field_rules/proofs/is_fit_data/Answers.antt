-- `field_rules::is_fit_data` meets its contract.
use Rattle.field_rules.proofs.is_fit_data.Goals as goal

pub returns : goal.returns
returns c = rw (← c.is_bad_source.ensures)
