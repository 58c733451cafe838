-- `chains::repeats_number` meets its contract.
use mathlib.Core.Path.{◌≡◌, sym, ap, ◌∙◌}
use Prim.Native.Nat.{ℕ, suc, ◌<◌}
use native.Mathlib.Omega.{arith}
use borrow.Author.Rules.{rules}
use lib.ListN.{length}
use Rattle.naming.specs.Entries.{entries_in}
use Rattle.pool.proofs.Starts.{entries-long}
use Rattle.views.specs.Fields.{element_of}
use Rattle.records.specs.Layout.{kind_code}
use Rattle.records.specs.declared.DeviceElement.{DeviceElement}
use Rattle.records.specs.declared.Kind.TheVariants.{Det}
use Rattle.records.proofs.Codes.{code-tells}
use Rattle.naming.specs.Records.{kind_at}
use Rattle.naming.proofs.Starts.{start-read}
use Rattle.chains.proofs.Noting.{element-passed, element-repeats, element-noted}
use Rattle.chains.proofs.repeats_number.Goals as goal

pub returns-in_default : goal.returns-in_default
returns-in_default c =
    let a = c.args in
    let inside : suc a.i < length a.records.now.starts.now = omega (arith, c.requires.0) in
    element-passed 65536 a.records.now.pool.now (entries_in a.records.now) a.i a.numbers.now c.requires.2
    (λ k. c.in_default.not-Det (code-tells c.record_kind.result Det (c.record_kind.ensures ∙ k)))

pub returns-in-Det : goal.returns-in-Det
returns-in-Det c =
    let a = c.args in
    let es = entries_in a.records.now in
    let inside : suc a.i < length a.records.now.starts.now = omega (arith, c.requires.0) in
    let own : kind_at es a.i ≡ 2 = sym c.record_kind.ensures ∙ ap kind_code c.in-Det.is in
    let e = c.device_element-element.result in
    let is = ap (λ (x : DeviceElement). x.number) c.device_element-element.ensures ∙ ap (λ (at : ℕ). (element_of a.records.now.pool.now at).number) (start-read a.records.now.pool.now a.records.now.starts.now a.i inside) in (
      c.note.ensures.0 ∙ element-repeats 65536 a.records.now.pool.now es a.i a.numbers.now c.requires.2 e.number own is (search rules) (omega (arith, entries-long a.records.now.pool.now a.records.now.starts.now)),
      element-noted 65536 a.records.now.pool.now es a.i a.numbers.now c.requires.2 e.number own is c.requires.1 c.note.new.marks c.note.ensures.2,
    )
