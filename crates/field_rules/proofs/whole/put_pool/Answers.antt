-- `field_rules::whole::put_pool` meets its contract.
use Rattle.faults.proofs.Adding.{adds_then}
use Rattle.field_rules.proofs.whole.put_pool.Goals as goal

pub returns : goal.returns
returns c = rw (← c.requires, ← c.lacks_machine.ensures) (adds_then c.put_if.ensures c.put_if-2.ensures)
