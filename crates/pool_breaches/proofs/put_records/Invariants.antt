-- `pool_breaches::put_records` meets its contract: record by record.
use Rattle.pool_breaches.proofs.Whole.{Putting}
use Rattle.pool_breaches.proofs.put_records.Given as goal

abbrev pub invariant-loop-i : goal.invariant-loop-i
invariant-loop-i l = Putting l.pool.names.records l.initial.faults l.sight l.faults l.i
