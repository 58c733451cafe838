-- `records::view::parent_id` meets its contract.
use mathlib.Core.Path.{◌≡◌, sym, ◌∙◌}
use Prim.Native.Nat.{◌+◌}
use native.Mathlib.Omega.{arith}
use borrow.Author.Tests.{eq-eqb, ne_eqb}
use Rattle.records.specs.Layout.{layout, mark_code, mark_of, three}
use Rattle.records.specs.Places.{field_at, parent_id_of}
use Rattle.records.proofs.view.parent_id.Goals as goal

pub returns-then-kind_number-from : goal.returns-then-kind_number-from
unfolding parent_id_of
returns-then-kind_number-from c =
    let a = c.args in
    rw (ne_eqb (mark_code (mark_of (three a.p.now a.at))) 2 (λ e. c.if-kind_number-from.true (c.kind_number.ensures ∙ e ∙ sym c.from.ensures)))

pub returns : goal.returns
unfolding parent_id_of field_at layout
returns c =
    let a = c.args in
    let is : mark_code (mark_of (three a.p.now a.at)) ≡ 2 = sym c.kind_number.ensures ∙ c.if-kind_number-from.false ∙ c.from.ensures in
    let six : a.at + 3 + 2 + 1 ≡ a.at + 6 = omega arith in
    rw (eq-eqb (mark_code (mark_of (three a.p.now a.at))) 2 is, six, ← c.read_u8.ensures) c.read.ensures
