-- `pool_breaches::put_records` meets its contract: record by record.
use native.Mathlib.Omega.{arith}
use Rattle.naming.proofs.Names.{names-some, names-few}
use Rattle.pool_breaches.proofs.Whole.{putting-start, putting-more, putting-end}
use Rattle.pool_breaches.proofs.put_records.Goals as goal

pub loop-i-init : goal.loop-i-init
loop-i-init c =
    let a = c.args in
    putting-start a.pool.now.names.records a.sight.now a.faults.now c.requires.0 (names-some a.pool.now.names)

pub pass-requires : goal.pass-requires
pass-requires c = (omega (arith, c.loop-i-test.true), c.loop-i.invariant.sighted, omega (arith, c.loop-i.invariant.few, c.loop-i.invariant.within, names-few c.args.pool.now.names, c.requires.1))

pub loop-i-preserved : goal.loop-i-preserved
loop-i-preserved c = putting-more c.args.pool.now.names.records (omega (arith, c.loop-i-test.true)) c.loop-i.invariant _ _ c.pass.ensures.0 c.pass.ensures.1

pub returns : goal.returns
returns c = putting-end c.args.pool.now.names.records (omega (arith, c.loop-i-test.false)) c.loop-i.invariant
