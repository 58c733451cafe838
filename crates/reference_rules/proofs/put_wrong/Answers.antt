-- `reference_rules::put_wrong` meets its contract: entry by entry.
use mathlib.Core.Path.{◌≡◌, ap, ◌∙◌}
use Prim.Native.Nat.{ℕ}
use native.Mathlib.Omega.{arith}
use Rattle.faults.proofs.Adding.{adds-clear, adds-start, adds-turn}
use Rattle.naming.specs.Naming.{kind_of, is_data_kind}
use Rattle.rules.specs.Table.{is_wrong_kind}
use Rattle.reference_rules.specs.Entries.{around, wrong_in}
use Rattle.reference_rules.proofs.Listed.{entry-inside}
use Rattle.reference_rules.proofs.put_wrong.Goals as goal

pub returns-then-not-wrong : goal.returns-then-not-wrong
returns-then-not-wrong c = adds-clear (c.requires.0 (c.if-not-wrong.true), tt)

pub loop-m-init : goal.loop-m-init
loop-m-init c = adds-start

pub is_wrong_entry-hit-requires : goal.is_wrong_entry-hit-requires
is_wrong_entry-hit-requires c = rw c.named_at.ensures (entry-inside c.args.list.now c.loop-m.m)

pub overflow_add-m : goal.overflow_add-m
overflow_add-m c = omega (arith, c.loop-m-test.true, c.args.list.now.few)

pub overflow_cast-m : goal.overflow_cast-m
overflow_cast-m c = omega (arith, c.loop-m-test.true, c.args.list.now.few)

pub put_if-requires : goal.put_if-requires
put_if-requires c = omega (arith, c.requires.1, c.args.list.now.few, c.loop-m.invariant.few, c.loop-m-test.true)

pub loop-m-preserved : goal.loop-m-preserved
loop-m-preserved c =
    let list = c.args.list.now in
    let l = c.loop-m in
    let hit : c.is_wrong_entry-hit.result ≡ wrong_in list l.m = c.is_wrong_entry-hit.ensures ∙ ap (λ (r : ℕ). is_wrong_kind (is_data_kind (kind_of (around list) r)) r) c.named_at.ensures in
    adds-turn l.m l.invariant (rw hit at c.put_if.ensures)

pub returns : goal.returns
returns c =
    let a = c.args in
    let l = c.loop-m in
    let end : l.m ≡ a.list.now.size = omega (arith, c.loop-m-test.false, l.auto.m-end) in
    rw end at l.invariant
