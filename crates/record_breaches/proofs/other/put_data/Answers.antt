-- `record_breaches::other::put_data` meets its contract.
use Rattle.faults.proofs.Adding.{adds_then}
use Rattle.record_breaches.proofs.other.put_data.Goals as goal

pub returns : goal.returns
returns c = rw (← c.process_data-d.ensures) (adds_then c.put_data.ensures c.put_presented.ensures)
