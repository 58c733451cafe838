-- `record_breaches::element::ElementRecord::put_rules` meets its contract.
use mathlib.Core.Path.{refl, sym}
use Prim.Native.Nat.{◌+◌}
use native.Mathlib.Omega.{arith}
use Rattle.faults.proofs.Adding.{adds_then, adds-within}
use Rattle.naming.proofs.Names.{names-few, named-inside}
use Rattle.record_breaches.specs.Elements.{pool_of, around}
use Rattle.record_breaches.proofs.Rows.{all-rows}
use Rattle.record_breaches.proofs.ElementRows.{element-rows}
use Rattle.record_breaches.proofs.Elements.{fields-read, entries-few}
use Rattle.record_breaches.proofs.element.ElementRecord.put_rules.Goals as goal

pub overflow_add-number : goal.overflow_add-number
overflow_add-number c = let e = c.args.self.now in omega (arith, names-few e.names.now, e.listed)

pub overflow_cast-number : goal.overflow_cast-number
overflow_cast-number c = let e = c.args.self.now in omega (arith, names-few e.names.now, e.listed)

pub put_own-requires : goal.put_own-requires
put_own-requires c = omega (arith, c.requires.4)

pub put_fields-requires : goal.put_fields-requires
put_fields-requires c = omega (arith, c.requires.4, c.put_own.ensures.few)

pub put_references-requires : goal.put_references-requires
put_references-requires c =
    let e = c.args.self.now in
    (rw e.parent_named (named-inside e.names.now e.fields.parent), entries-few e, omega (arith, c.requires.4, c.put_own.ensures.few, c.put_fields.ensures.few))

pub returns : goal.returns
returns c =
    let a = c.args in
    let e = a.self.now in
    let few = entries-few e in
    let size = e.fields.entries in
    adds-within 98313
    (all-rows (pool_of e) (around e) e.i 2 (sym e.is_element) a.bad a.twice c.requires.0 c.requires.1 {b = 3 + (4 + size + size + size)} c.put_own.ensures
    (rw (element-rows (pool_of e) (around e) e.i e.at 2 e.starts refl e.fields (fields-read e) e.parent e.parent_named a.again a.endless c.requires.2 c.requires.3)
    (adds_then c.put_fields.ensures c.put_references.ensures))) (omega (arith, few))
