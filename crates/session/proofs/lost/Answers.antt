-- `session::lost` meets its contract: each return is a case of the definition.
use mathlib.Core.Path.{sym, ◌∙◌}
use Rattle.session.specs.Calls.{lost_of}
use Rattle.session.proofs.lost.Goals as goal

pub returns-then-is_impossible : goal.returns-then-is_impossible
unfolding lost_of
returns-then-is_impossible c = rw (sym c.is_impossible.ensures ∙ c.if-is_impossible.true) c.refuse.ensures

pub returns : goal.returns
unfolding lost_of
returns c = rw (sym c.is_impossible.ensures ∙ c.if-is_impossible.false, c.end_stage.ensures)
