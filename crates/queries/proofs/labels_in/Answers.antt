-- `queries::labels_in` meets its contract: an accepted pool has a device.
use mathlib.Core.Path.{◌≡◌, sym}
use native.Mathlib.Omega.{arith}
use lib.Seq.{length-take-le}
use Rattle.queries.proofs.Asked.{labels-refused, listed-room, listed-divided, device-there, device-inside, device-short, labels-found}
use Rattle.queries.proofs.labels_in.Goals as goal

pub overflow_add-records : goal.overflow_add-records
overflow_add-records c =
    let a = c.args in
    omega (arith, listed-room a.p.now a.room a.starts.now a.verdict c.requires c.in-Ok.count c.in-Ok.ensures, c.well_formed)

pub slice_bounds-records-end : goal.slice_bounds-records-end
slice_bounds-records-end c =
    let a = c.args in
    sym (length-take-le _ a.starts.now (listed-room a.p.now a.room a.starts.now a.verdict c.requires c.in-Ok.count c.in-Ok.ensures))

pub invariant_of-records : goal.invariant_of-records
invariant_of-records c =
    let a = c.args in
    record { divided = listed-divided a.p.now a.room a.starts.now a.verdict c.requires c.in-Ok.count c.in-Ok.ensures }

pub overflow_sub-device : goal.overflow_sub-device
overflow_sub-device c =
    let a = c.args in
    let d = c.first_device-device in
    let z : (d.result ≡ 0 → ⊥) = device-there a.p.now a.room a.starts.now a.verdict c.requires c.in-Ok.count c.in-Ok.ensures d.result d.ensures in
    omega arith

pub bounds-starts-device : goal.bounds-starts-device
bounds-starts-device c =
    let a = c.args in
    let d = c.first_device-device in
    device-inside a.p.now a.room a.starts.now a.verdict c.requires c.in-Ok.count c.in-Ok.ensures d.result d.ensures

pub labels_at-requires : goal.labels_at-requires
labels_at-requires c =
    let a = c.args in
    let d = c.first_device-device in
    device-short a.p.now a.room a.starts.now a.verdict c.requires c.in-Ok.count c.in-Ok.ensures d.result d.ensures

pub returns-in-Ok : goal.returns-in-Ok
returns-in-Ok c =
    let a = c.args in
    let d = c.first_device-device in
    labels-found a.p.now a.room a.starts.now a.verdict c.requires c.in-Ok.count c.in-Ok.ensures d.result d.ensures c.labels_at.result c.labels_at.ensures

pub returns-in-Err : goal.returns-in-Err
returns-in-Err c = let a = c.args in labels-refused a.p.now a.room a.starts.now a.verdict c.requires c.in-Err.refusal c.in-Err.ensures c.into.result c.into.ensures
