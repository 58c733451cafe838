-- `session::deactivate` meets its contract: each return is a case of the definition.
use mathlib.Core.Path.{sym, ◌∙◌}
use borrow.Author.Tests.{eq-eqb, ne_eqb}
use Rattle.session.specs.Calls.{deactivate_of}
use Rattle.session.proofs.deactivate.Goals as goal

pub returns-then-is_impossible : goal.returns-then-is_impossible
unfolding deactivate_of
returns-then-is_impossible c = rw (sym c.is_impossible.ensures ∙ c.if-is_impossible.true) c.refuse.ensures

pub returns-then-s-eq0 : goal.returns-then-s-eq0
unfolding deactivate_of
returns-then-s-eq0 c = rw (sym c.is_impossible.ensures ∙ c.if-is_impossible.false, eq-eqb _ _ c.if-s-eq0.true) c.refuse-then-s-eq0.ensures

pub returns : goal.returns
unfolding deactivate_of
returns c = rw (sym c.is_impossible.ensures ∙ c.if-is_impossible.false, ne_eqb _ _ c.if-s-eq0.false)
