-- `naming::NamedRecords::parent_at` meets its contract.
use mathlib.Core.Path.{◌≡◌, sym, ap, ◌∙◌}
use Prim.Native.Nat.{ℕ, ◌-◌}
use native.Mathlib.Omega.{arith}
use borrow.Author.Tests.{eqb-true, eqb-false}
use Rattle.records.specs.declared.DeviceElement.{DeviceElement}
use Rattle.views.specs.Fields.{element_of}
use Rattle.naming.specs.Naming.{named, kind_of}
use Rattle.naming.specs.Entries.{entries_in}
use Rattle.naming.proofs.Starts.{start-read}
use Rattle.naming.proofs.Names.{named-inside}
use Rattle.naming.proofs.Parents.{kind-some, parent-none, parent-some, parent-other}
use Rattle.naming.proofs.NamedRecords.parent_at.Goals as goal

pub returns-then-not-is_at : goal.returns-then-not-is_at
returns-then-not-is_at c =
    let r = c.args.self.now.records in
    parent-none r.pool.now (entries_in r) c.args.number (eqb-false _ 2 (sym c.is_at.ensures ∙ c.if-not-is_at.true))

pub overflow_sub-number : goal.overflow_sub-number
overflow_sub-number c = kind-some (entries_in c.args.self.now.records) c.args.number (eqb-true _ 2 (sym c.is_at.ensures ∙ c.if-not-is_at.false))

pub is_at-requires-2 : goal.is_at-requires-2
is_at-requires-2 c = rw c.named_at-parent.ensures (named-inside c.args.self.now _)

pub returns-then-not-is_at-2 : goal.returns-then-not-is_at-2
returns-then-not-is_at-2 c =
    let a = c.args in
    let r = a.self.now.records in
    let es = entries_in r in
    let own : kind_of es a.number ≡ 2 = eqb-true (kind_of es a.number) 2 (sym c.is_at.ensures ∙ c.if-not-is_at.false) in
    let names =
    c.named_at-parent.ensures
    ∙ ap (λ (e : DeviceElement). named es e.parent) c.device_element-element.ensures
    ∙ ap (λ (x : ℕ). named es (element_of r.pool.now x).parent) (start-read r.pool.now r.starts.now (a.number - 1) (omega (arith, kind-some es a.number own, c.requires)))
    in
    parent-other r.pool.now es a.number c.named_at-parent.result own names (eqb-false _ 2 (sym c.is_at-2.ensures ∙ c.if-not-is_at-2.true))

pub returns : goal.returns
returns c =
    let a = c.args in
    let r = a.self.now.records in
    let es = entries_in r in
    let own : kind_of es a.number ≡ 2 = eqb-true (kind_of es a.number) 2 (sym c.is_at.ensures ∙ c.if-not-is_at.false) in
    let names =
    c.named_at-parent.ensures
    ∙ ap (λ (e : DeviceElement). named es e.parent) c.device_element-element.ensures
    ∙ ap (λ (x : ℕ). named es (element_of r.pool.now x).parent) (start-read r.pool.now r.starts.now (a.number - 1) (omega (arith, kind-some es a.number own, c.requires)))
    in
    parent-some r.pool.now es a.number c.named_at-parent.result own names (eqb-true _ 2 (sym c.is_at-2.ensures ∙ c.if-not-is_at-2.false))
