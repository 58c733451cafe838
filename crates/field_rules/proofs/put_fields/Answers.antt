-- `field_rules::put_fields` meets its contract.
use Rattle.faults.proofs.Adding.{adds_then}
use Rattle.field_rules.proofs.put_fields.Goals as goal

pub returns : goal.returns
returns c = rw (← c.is_unsound.ensures, ← c.is_bad_type.ensures) (adds_then c.put_if.ensures (adds_then c.put_if-2.ensures c.put_if-3.ensures))
