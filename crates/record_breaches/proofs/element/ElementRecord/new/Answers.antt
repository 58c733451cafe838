-- `record_breaches::element::ElementRecord::new` meets its contract: the fields are read where the record starts.
use native.Mathlib.Omega.{arith}
use Prim.Native.Nat.{suc, ◌<◌}
use lib.ListN.{length}
use Rattle.naming.proofs.Names.{named-inside}
use Rattle.naming.proofs.Starts.{start-read}
use Rattle.record_breaches.proofs.element.ElementRecord.new.Goals as goal

pub kind_at-kind-requires : goal.kind_at-kind-requires
kind_at-kind-requires c = rw c.named_at-parent.ensures (named-inside c.args.names.now c.device_element-fields.result.parent)

pub invariant_of-result : goal.invariant_of-result
invariant_of-result c =
    let names = c.args.names.now in
    let l : suc c.args.i < length names.records.starts.now = omega (arith, c.requires.0) in
    record {
      listed = c.requires.0;
      is_element = c.requires.1;
      starts = start-read names.records.pool.now names.records.starts.now c.args.i l;
      read = c.device_element-fields.ensures;
      parent_named = c.named_at-parent.ensures;
      kind_told = c.kind_at-kind.ensures;
    }
