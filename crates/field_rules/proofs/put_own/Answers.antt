-- `field_rules::put_own` meets its contract.
use Rattle.faults.proofs.Adding.{adds_then}
use Rattle.field_rules.proofs.put_own.Goals as goal

pub returns : goal.returns
returns c = adds_then c.put_if.ensures c.put_if-2.ensures
