-- `session::offer` meets its contract: each return is a case of the definition.
use mathlib.Core.Path.{sym, ◌∙◌}
use native.Mathlib.Omega.{arith}
use lib.Dec.{eqb, ltb}
use borrow.Author.Tests.{ltb-false}
use Rattle.wire.proofs.Either.{neither}
use Rattle.session.specs.Calls.{offer_of}
use Rattle.session.proofs.offer.Goals as goal

pub returns-then-is_impossible : goal.returns-then-is_impossible
unfolding offer_of
returns-then-is_impossible c = rw (sym c.is_impossible.ensures ∙ c.if-is_impossible.true) c.refuse.ensures

pub returns-then-size : goal.returns-then-size
unfolding offer_of
returns-then-size c = rw (sym c.is_impossible.ensures ∙ c.if-is_impossible.false, c.if-size.true) c.refuse-then-size.ensures

pub returns-then-staging-size : goal.returns-then-staging-size
unfolding offer_of
returns-then-staging-size c = rw (sym c.is_impossible.ensures ∙ c.if-is_impossible.false, c.if-size.false, c.if-staging-size.true) c.refuse-then-staging-size.ensures

pub overflow_cast-result : goal.overflow_cast-result
overflow_cast-result c = record { fits = omega (arith, ltb-false 65535 c.args.size (neither (eqb c.args.size 0) (ltb 65535 c.args.size) c.if-size.false).1) }

pub returns : goal.returns
unfolding offer_of
returns c = rw (sym c.is_impossible.ensures ∙ c.if-is_impossible.false, c.if-size.false, c.if-staging-size.false)
