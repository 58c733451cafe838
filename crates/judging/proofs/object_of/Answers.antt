-- `judging::object_of` meets its contract: what has a DDI is a record.
use mathlib.Core.Path.{◌≡◌, sym, ap, ◌∙◌}
use mathlib.Core.Bool.{true}
use Prim.Native.Nat.{suc, ◌-◌}
use native.Mathlib.Numerals.{add-one}
use native.Mathlib.Omega.{arith}
use borrow.Author.Tests.{eq-eqb}
use lib.Dec.{eqb}
use Rattle.naming.specs.Naming.{named, tag_of}
use Rattle.naming.specs.Entries.{entries_in}
use Rattle.naming.proofs.Names.{named-inside}
use Rattle.judging.proofs.Found.{tag-some}
use Rattle.judging.proofs.object_of.Goals as goal

pub tag_at-requires : goal.tag_at-requires
tag_at-requires c = rw c.named_at-named.ensures (named-inside c.args.names.now c.args.id)

pub overflow_sub-result : goal.overflow_sub-result
overflow_sub-result c =
    let r = c.args.names.now.records in
    let some = tag-some r.pool.now (entries_in r) c.named_at-named.result c.args.ddi (sym c.tag_at.ensures.0 ∙ c.if-tag_at-ddi.false ∙ add-one c.args.ddi) in
    omega (arith, some)

pub returns : goal.returns
returns c =
    let r = c.args.names.now.records in
    let found = sym c.tag_at.ensures.0 ∙ c.if-tag_at-ddi.false ∙ add-one c.args.ddi in
    let some = tag-some r.pool.now (entries_in r) c.named_at-named.result c.args.ddi found in
    let here : suc (c.named_at-named.result - 1) ≡ c.named_at-named.result = omega (arith, some) in
    let tag : eqb (tag_of r.pool.now (entries_in r) (named (entries_in r) c.args.id)) (suc c.args.ddi) ≡ true = eq-eqb _ _ (ap (tag_of r.pool.now (entries_in r)) (sym c.named_at-named.ensures) ∙ found) in
    rw tag (here ∙ c.named_at-named.ensures)
