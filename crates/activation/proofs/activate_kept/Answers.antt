-- `activation::activate_kept` meets its contract: each return is a case of the definition.
use borrow.Author.Tests.{eq-eqb, ne_eqb, lt-ltb, le-ltb}
use Rattle.activation.specs.Activating.{kept_activated}
use Rattle.activation.proofs.activate_kept.Goals as goal

pub returns-then-s-eq0 : goal.returns-then-s-eq0
unfolding kept_activated
returns-then-s-eq0 c = rw (eq-eqb _ _ c.if-s-eq0.true) c.refuse.ensures

pub returns-then-room-s : goal.returns-then-room-s
unfolding kept_activated
returns-then-room-s c = rw (ne_eqb _ _ c.if-s-eq0.false, lt-ltb _ _ c.if-room-s.true) c.refuse-then-room-s.ensures

pub returns : goal.returns
unfolding kept_activated
returns c = rw (ne_eqb _ _ c.if-s-eq0.false, le-ltb _ _ c.if-room-s.false)
