-- `messages::write_value` meets its contract: the head, and the value behind it.
use mathlib.Core.Path.{◌≡◌, refl, sym, ◌∙◌}
use borrow.Author.Tests.{ltb-false}
use lib.Dec.{ltb}
use lib.ListN.{length}
use lib.Seq.{sets}
use mir.Syntax.{w32}
use mir.ValLaws.{to_z-of_z}
use Rattle.wire.specs.Bytes.{bits_of}
use Rattle.messages.specs.Layout.{head_bytes, value_bytes}
use Rattle.messages.specs.Writing.{value_refusal, value_after}
use Rattle.messages.proofs.Laying.{value-laid}
use Rattle.messages.proofs.Granted.{is-held, has-room}
use Rattle.messages.proofs.write_value.Goals as goal

pub returns : goal.returns
unfolding value_refusal value_after value_bytes
returns c =
    let a = c.args in
    let e = is-held (ltb 4095 a.element) a.element c.in_ok-element.element c.in_ok-element.ensures in
    let r = has-room (ltb (length a.to.now) 8) c.in_ok-check_room.ensures in
    let head : c.put_head.new.to ≡ sets a.to.now 0 (head_bytes a.command a.element a.ddi) = rw e.1 at c.put_head.ensures in
    rw (sym c.carries_value.ensures ∙ c.if-not-carries_value.false, e.0, r)
    (refl, (rw (to_z-of_z w32 a.value c.ranges.value) at c.write.ensures.1) ∙ value-laid a.to.now c.put_head.new.to a.command a.element a.ddi (bits_of 4 a.value) (ltb-false (length a.to.now) 8 r) head)
