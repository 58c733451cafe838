-- `field_rules::put_data` meets its contract.
use Rattle.faults.proofs.Adding.{adds_then}
use Rattle.field_rules.proofs.put_data.Goals as goal

pub returns : goal.returns
returns c = rw (← c.is_unsound.ensures, ← c.is_bad_source.ensures) (adds_then c.put_if.ensures (adds_then c.put_if-2.ensures (adds_then c.put_if-3.ensures c.put_if-4.ensures)))
