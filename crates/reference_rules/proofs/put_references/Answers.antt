-- `reference_rules::put_references` meets its contract.
use Prim.Native.Nat.{◌+◌}
use native.Mathlib.Omega.{arith}
use Rattle.faults.proofs.Adding.{adds_then, adds-within}
use Rattle.reference_rules.proofs.put_references.Goals as goal

pub put_numbered-requires : goal.put_numbered-requires
put_numbered-requires c = omega (arith, c.put_if.ensures.few, c.put_missing-looked.ensures.0.few, c.put_if-2.ensures.few, c.put_wrong.ensures.few, c.requires.1, c.requires.2)

pub put_doubled-requires : goal.put_doubled-requires
put_doubled-requires c = (c.put_missing-looked.ensures.2, omega (arith, c.put_if.ensures.few, c.put_missing-looked.ensures.0.few, c.put_if-2.ensures.few, c.put_wrong.ensures.few, c.put_numbered.ensures.few, c.requires.1, c.requires.2))

pub returns : goal.returns
returns c =
    let size = c.args.size in
    rw (← c.is_wrong_parent-wrong.ensures)
    (adds-within (4 + size + size + size)
    (adds_then c.put_if.ensures
    (adds_then c.put_missing-looked.ensures.0
    (adds_then c.put_if-2.ensures
    (adds_then c.put_wrong.ensures
    (adds_then c.put_numbered.ensures c.put_doubled.ensures))))) (omega arith))
