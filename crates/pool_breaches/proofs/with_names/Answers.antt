-- `pool_breaches::with_names`: the long lists have room for every record.
use native.Mathlib.Omega.{arith}
use Rattle.naming.proofs.Names.{records-few}
use Rattle.pool_breaches.proofs.with_names.Goals as goal

pub lend-requires-2-clause-room : goal.lend-requires-2-clause-room
lend-requires-2-clause-room g c = (omega arith, records-few c.args.records, omega arith, omega arith)
