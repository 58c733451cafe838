-- `record_breaches::other::OtherRecord::put_kind` meets its contract.
use mathlib.Core.Path.{refl, ap}
use native.Mathlib.Omega.{arith}
use lib.ListN.{get_or}
use Rattle.records.specs.Layout.{kind_code}
use Rattle.views.specs.Fields.{device_of, process_data_of, property_of}
use Rattle.faults.proofs.Adding.{adds-within}
use Rattle.field_rules.proofs.ByKind.{device-rows, data-rows, property-rows, value-rows}
use Rattle.record_breaches.specs.Others.{pool_around, records_around}
use Rattle.record_breaches.proofs.Others.{starts_around, few, starts-read}
use Rattle.record_breaches.proofs.other.OtherRecord.put_kind.Goals as goal

pub offset_bounds-names-self : goal.offset_bounds-names-self
offset_bounds-names-self c = omega (arith, few c.args.self.now)

pub overflow_add-number : goal.overflow_add-number
overflow_add-number c = omega (arith, few c.args.self.now)

pub overflow_cast-number : goal.overflow_cast-number
overflow_cast-number c = omega (arith, few c.args.self.now)

pub returns-in-Dvc : goal.returns-in-Dvc
returns-in-Dvc c =
    let r = c.args.self.now in
    let at = get_or (starts_around r) r.i 0 in
    rw (device-rows (pool_around r) (records_around r) r.i at (starts-read r) (kind_code r.kind) (ap kind_code c.in-Dvc.is) (device_of (pool_around r) at) refl r.pool.now.device r.pool.now.first) c.put_device.ensures

pub returns-in-Dpd : goal.returns-in-Dpd
returns-in-Dpd c =
    let r = c.args.self.now in
    let at = get_or (starts_around r) r.i 0 in
    rw (data-rows (pool_around r) (records_around r) r.i at (starts-read r) (kind_code r.kind) (ap kind_code c.in-Dpd.is) (process_data_of (pool_around r) at) refl) (adds-within 18 c.put_data.ensures (omega arith))

pub returns-in-Dpt : goal.returns-in-Dpt
returns-in-Dpt c =
    let r = c.args.self.now in
    let at = get_or (starts_around r) r.i 0 in
    rw (property-rows (pool_around r) (records_around r) r.i at (starts-read r) (kind_code r.kind) (ap kind_code c.in-Dpt.is) (property_of (pool_around r) at) refl) (adds-within 18 c.put_property.ensures (omega arith))

pub returns-in-Dvp : goal.returns-in-Dvp
returns-in-Dvp c =
    let r = c.args.self.now in
    let at = get_or (starts_around r) r.i 0 in
    rw (value-rows (pool_around r) (records_around r) r.i at (starts-read r) (kind_code r.kind) (ap kind_code c.in-Dvp.is) c.value_presentation.result c.value_presentation.ensures) (adds-within 18 c.put_value.ensures (omega arith))

pub returns-in-Det : goal.returns-in-Det
returns-in-Det c = absurd (c.args.self.now.no_element (ap kind_code c.in-Det.is))
