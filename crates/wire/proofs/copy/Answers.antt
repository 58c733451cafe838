-- `wire::copy` meets its contract.
use mathlib.Core.Path.{◌≡◌, sym, ◌∙◌}
use mathlib.Core.Bool.{true, false}
use Prim.Native.Nat.{◌+◌}
use borrow.Author.Tests.{leb-true}
use lib.Dec.{leb}
use lib.ListN.{length}
use Rattle.wire.proofs.Laid.{laid-fits, laid-short}
use Rattle.wire.proofs.copy.Goals as goal

pub copy_in-requires : goal.copy_in-requires
copy_in-requires c = leb-true _ _ (sym c.has_room.ensures ∙ c.if-has_room.true)

pub returns-then-has_room : goal.returns-then-has_room
returns-then-has_room c =
    let a = c.args in
    let t : leb (a.at + length a.from.now) (length a.to.now) ≡ true = sym c.has_room.ensures ∙ c.if-has_room.true in
    (sym t, c.copy_in.ensures ∙ sym (laid-fits a.to.now a.at a.from.now t))

pub returns : goal.returns
returns c =
    let a = c.args in
    let t : leb (a.at + length a.from.now) (length a.to.now) ≡ false = sym c.has_room.ensures ∙ c.if-has_room.false in
    (sym t, sym (laid-short a.to.now a.at a.from.now t))
