-- `decimal::put_bytes` meets its contract.
use mathlib.Core.Path.{sym, ◌∙◌}
use Prim.Native.Nat.{◌+◌, ◌≤◌}
use native.Mathlib.Omega.{arith}
use borrow.Author.Tests.{leb-true}
use lib.ListN.{length}
use Rattle.decimal.proofs.Places.{after-fits, after-short}
use Rattle.decimal.proofs.put_bytes.Goals as goal

pub overflow_add-result : goal.overflow_add-result
overflow_add-result c =
    let a = c.args in
    let room : a.at + length a.bytes.now ≤ length a.out.now = leb-true _ _ (sym c.copy.ensures.0 ∙ c.if-copy.true) in
    omega arith

pub returns-then-copy : goal.returns-then-copy
returns-then-copy c =
    let a = c.args in
    (c.copy.ensures.1, sym (after-fits a.out.now a.at a.bytes.now (sym c.copy.ensures.0 ∙ c.if-copy.true)))

pub returns : goal.returns
returns c =
    let a = c.args in
    (c.copy.ensures.1, sym (after-short a.out.now a.at a.bytes.now (sym c.copy.ensures.0 ∙ c.if-copy.false)))
