-- `reference_rules::put_missing` meets its contract: entry by entry.
use mathlib.Core.Path.{◌≡◌, sym, ap, ◌∙◌}
use mathlib.Core.Bool.{Bool, not, ◌||◌}
use Prim.Native.Nat.{ℕ, ◌+◌, ◌≤◌}
use native.Mathlib.Omega.{arith}
use lib.Dec.{eqb}
use Rattle.faults.proofs.Adding.{adds-start, adds-turn}
use Rattle.naming.specs.Naming.{kind_of, is_data_kind}
use Rattle.reference_rules.specs.Entries.{around, named_in, data_in, tag_in}
use Rattle.reference_rules.proofs.Tags.{tag-other}
use Rattle.reference_rules.proofs.Looking.{Looking, look-start, look-data, look-other}
use Rattle.reference_rules.proofs.Listed.{entry-inside}
use Rattle.reference_rules.proofs.put_missing.Goals as goal
use Rattle.reference_rules.proofs.put_missing.Goals.{then-is_data_at, else-is_data_at}

moved : (P : Bool → ℕ → Type 0) {w v : Bool} {s t : ℕ} → w ≡ v → s ≡ t → P v t → P w s
moved P e q h = rw (e, q) h

pub loop-m-init : goal.loop-m-init
loop-m-init c = let list = c.args.list.now in (adds-start, omega arith, look-start (named_in list) (data_in list) (tag_in list))

pub overflow_add-m : goal.overflow_add-m
overflow_add-m c = omega (arith, c.loop-m-test.true, c.args.list.now.few)

pub overflow_cast-m : goal.overflow_cast-m
overflow_cast-m c = omega (arith, c.loop-m-test.true, c.args.list.now.few)

pub put_if-requires : goal.put_if-requires
put_if-requires c = omega (arith, c.requires, c.args.list.now.few, c.loop-m.invariant.0.few, c.loop-m-test.true)

pub is_data_at-requires : goal.is_data_at-requires
is_data_at-requires c = rw c.named_at-named.ensures (entry-inside c.args.list.now c.loop-m.m)

pub overflow_add-tagged : goal.overflow_add-tagged
overflow_add-tagged c = omega (arith, c.loop-m-test.true, c.loop-m.invariant.1, c.args.list.now.few)

pub loop-m-preserved : goal.loop-m-preserved
loop-m-preserved c =
    let list = c.args.list.now in
    let l = c.loop-m in
    let is = c.named_at-named.ensures in
    let kind : c.is_data_at.result ≡ data_in list l.m = c.is_data_at.ensures ∙ ap (λ (r : ℕ). is_data_kind (kind_of (around list) r)) is in
    let put = adds-turn l.m l.invariant.0 (rw is at c.put_if.ensures) in
    let Next : Bool → ℕ → Type 0 = λ (w : Bool) (t : ℕ). (t ≤ l.m + 1) × Looking (named_in list) (data_in list) (tag_in list) (l.m + 1) w t in
    let on : Next c.if-is_data_at.wrong c.if-is_data_at.tagged =
    elim c.if-is_data_at.branch [
      | then-is_data_at w ↦ moved Next w.wrong-is w.tagged-is (omega (arith, l.invariant.1), look-data (named_in list) (data_in list) (tag_in list) l.m l.wrong l.tagged l.invariant.2 (sym kind ∙ w.if-is_data_at.true))
      | else-is_data_at w ↦ moved Next (w.wrong-is ∙ ap (λ (r : ℕ). l.wrong || not (eqb r 0)) is) w.tagged-is (omega (arith, l.invariant.1), look-other (named_in list) (data_in list) (tag_in list) l.m l.wrong l.tagged l.invariant.2 (sym kind ∙ w.if-is_data_at.false) (tag-other list.names.records.pool.now (around list) (named_in list l.m) (sym kind ∙ w.if-is_data_at.false)))
    ] in
    (put, on.0, on.1)

pub returns : goal.returns
returns c =
    let a = c.args in
    let list = a.list.now in
    let l = c.loop-m in
    let end : l.m ≡ list.size = omega (arith, c.loop-m-test.false, l.auto.m-end) in
    (rw end at l.invariant.0, λ e m b. l.invariant.2.clean e m (omega arith), λ e m b. l.invariant.2.few e m (omega arith))
