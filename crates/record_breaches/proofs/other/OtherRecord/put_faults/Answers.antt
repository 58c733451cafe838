-- `record_breaches::other::OtherRecord::put_faults` meets its contract.
use native.Mathlib.Omega.{arith}
use Rattle.faults.proofs.Adding.{adds-within}
use Rattle.records.specs.Layout.{kind_code}
use Rattle.record_breaches.specs.Others.{pool_around, records_around}
use Rattle.record_breaches.proofs.Rows.{all-rows}
use Rattle.record_breaches.proofs.Others.{few}
use Rattle.record_breaches.proofs.other.OtherRecord.put_faults.Goals as goal

pub overflow_add-self : goal.overflow_add-self
overflow_add-self c = omega (arith, few c.args.self.now)

pub overflow_cast-self : goal.overflow_cast-self
overflow_cast-self c = omega (arith, few c.args.self.now)

pub put_kind-requires : goal.put_kind-requires
put_kind-requires c = omega (arith, c.put_own.ensures.few, c.requires.2)

pub returns : goal.returns
returns c =
    let a = c.args in
    let r = a.self.now in
    adds-within 98313 (all-rows (pool_around r) (records_around r) r.i (kind_code r.kind) r.told a.bad a.again c.requires.0 c.requires.1 c.put_own.ensures c.put_kind.ensures) (omega arith)
