-- `record_breaches::other::put_property` meets its contract.
use Rattle.faults.proofs.Adding.{adds_then}
use Rattle.record_breaches.proofs.other.put_property.Goals as goal

pub returns : goal.returns
returns c = rw (← c.property-d.ensures) (adds_then c.put_property.ensures c.put_presented.ensures)
