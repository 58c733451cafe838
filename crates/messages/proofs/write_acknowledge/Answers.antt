-- `messages::write_acknowledge` meets its contract: the head, and the answer behind it.
use mathlib.Core.Path.{◌≡◌, refl, ◌∙◌}
use mathlib.Core.List.{[], ◌∷◌}
use Prim.Native.Nat.{◌+◌}
use lib.Dec.{ltb}
use lib.ListN.{length}
use lib.Seq.{sets}
use Rattle.messages.specs.Layout.{head_bytes, acknowledge_bytes, acknowledge}
use Rattle.messages.specs.Writing.{acknowledge_refusal, acknowledge_after}
use Rattle.messages.proofs.Laying.{behind-head}
use Rattle.messages.proofs.Granted.{is-held, has-room}
use Rattle.messages.proofs.write_acknowledge.Goals as goal

pub returns : goal.returns
unfolding acknowledge_refusal acknowledge_after acknowledge_bytes
returns c =
    let a = c.args in
    let e = is-held (ltb 4095 a.element) a.element c.in_ok-element.element c.in_ok-element.ensures in
    let n = is-held (ltb 15 a.answered) a.answered c.in_ok-answered.field-0 c.in_ok-answered.ensures in
    let r = has-room (ltb (length a.to.now) 8) c.in_ok-check_room.ensures in
    let head : c.put_head.new.to ≡ sets a.to.now 0 (head_bytes acknowledge a.element a.ddi) = rw e.1 at c.put_head.ensures in
    rw (e.0, n.0, r)
    (refl, (rw n.1 at c.put_answer.ensures) ∙ behind-head a.to.now c.put_head.new.to acknowledge a.element a.ddi (a.errors ∷ (240 + a.answered) ∷ 255 ∷ 255 ∷ []) head)
