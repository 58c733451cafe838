-- `wire::put_at` meets its contract.
use mathlib.Core.Path.{◌≡◌, sym, ◌∙◌}
use mathlib.Core.Bool.{true, false}
use Prim.Native.Nat.{◌+◌}
use borrow.Author.Tests.{leb-true}
use lib.Dec.{leb}
use lib.ListN.{length}
use Rattle.wire.specs.Bytes.{bytes_of}
use Rattle.wire.proofs.Width.{bytes-long}
use Rattle.wire.proofs.Laid.{laid-fits, laid-short}
use Rattle.wire.proofs.put_at.Goals as goal

pub put-requires : goal.put-requires
put-requires c = leb-true _ _ (sym c.has_room.ensures ∙ c.if-has_room.true)

pub returns-then-has_room : goal.returns-then-has_room
returns-then-has_room c =
    let a = c.args in
    let t : leb (a.at + a.w) (length a.d.now) ≡ true = sym c.has_room.ensures ∙ c.if-has_room.true in
    (sym t, c.put.ensures ∙ sym (laid-fits a.d.now a.at (bytes_of a.w a.x) (rw (bytes-long a.w a.x) t)))

pub returns : goal.returns
returns c =
    let a = c.args in
    let t : leb (a.at + a.w) (length a.d.now) ≡ false = sym c.has_room.ensures ∙ c.if-has_room.false in
    (sym t, sym (laid-short a.d.now a.at (bytes_of a.w a.x) (rw (bytes-long a.w a.x) t)))
