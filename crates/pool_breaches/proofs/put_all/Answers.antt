-- `pool_breaches::put_all` meets its contract.
use native.Mathlib.Omega.{arith}
use Rattle.naming.proofs.Names.{names-few}
use Rattle.pool_breaches.proofs.put_all.Goals as goal

pub put_marked-requires : goal.put_marked-requires
put_marked-requires c = (omega (arith, c.if-names-le-SHORT_LIST.true), omega arith)

pub put_marked-requires-2 : goal.put_marked-requires-2
put_marked-requires-2 c = (omega (arith, names-few c.args.names.now), omega arith)
