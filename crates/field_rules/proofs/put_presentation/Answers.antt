-- `field_rules::put_presentation` meets its contract.
use Rattle.faults.proofs.Adding.{adds_then}
use Rattle.field_rules.proofs.put_presentation.Goals as goal

pub returns : goal.returns
returns c = rw (← c.is_missing.ensures, ← c.is_presentation.ensures, ← c.is_wrong-wrong.ensures) (adds_then c.put_if.ensures c.put_if-2.ensures)
