-- `activation::activate_in` meets its contract: each return is a case of the definition.
use mathlib.Core.Path.{refl, sym, ap, ◌∙◌}
use mathlib.Core.Bool.{true≢false}
use borrow.Author.Tests.{eq-eqb, ne_eqb, lt-ltb, le-ltb}
use lib.Seq.{length-take-le}
use Rattle.session.specs.Calls.{step_of}
use Rattle.activation.specs.Activating.{activate_of, is_checked, kept_after}
use Rattle.activation.specs.Rows.{records_for}
use Rattle.session.proofs.Arising.{sized}
use Rattle.activation.proofs.activate_in.Goals as goal

pub returns-then-is_impossible : goal.returns-then-is_impossible
unfolding activate_of kept_after is_checked records_for
returns-then-is_impossible c = rw (sym c.is_impossible.ensures ∙ c.if-is_impossible.true) (ap step_of c.filling.ensures.0 ∙ c.refuse.ensures, refl, c.filling.ensures.1, λ h. absurd (true≢false (sym h)))

pub returns-then-s-ne1 : goal.returns-then-s-ne1
unfolding activate_of kept_after is_checked records_for
returns-then-s-ne1 c = rw (sym c.is_impossible.ensures ∙ c.if-is_impossible.false, ne_eqb _ _ c.if-s-ne1.true) (ap step_of c.filling-then-s-ne1.ensures.0 ∙ c.activate_kept.ensures, refl, c.filling-then-s-ne1.ensures.1, λ h. absurd (true≢false (sym h)))

pub returns-then-s : goal.returns-then-s
unfolding activate_of kept_after is_checked records_for
returns-then-s c = rw (sym c.is_impossible.ensures ∙ c.if-is_impossible.false, eq-eqb _ _ c.if-s-ne1.false, lt-ltb _ _ c.if-s.true) (ap step_of c.filling-then-s.ensures.0 ∙ c.refuse-then-s.ensures, refl, c.filling-then-s.ensures.1, λ h. absurd (true≢false (sym h)))

pub returns-then-staging-announced : goal.returns-then-staging-announced
unfolding activate_of kept_after is_checked records_for
returns-then-staging-announced c = rw (sym c.is_impossible.ensures ∙ c.if-is_impossible.false, eq-eqb _ _ c.if-s-ne1.false, le-ltb _ _ c.if-s.false, c.if-staging-announced.true) (ap step_of c.filling-then-staging-announced.ensures.0 ∙ c.refuse-then-staging-announced.ensures, refl, c.filling-then-staging-announced.ensures.1, λ h. absurd (true≢false (sym h)))

pub slice_bounds-settle-end : goal.slice_bounds-settle-end
slice_bounds-settle-end c = sym (length-take-le c.args.s.announced c.args.staging.now (sized c.args.s c.args.staging.now c.args.kept.now (sym c.is_impossible.ensures ∙ c.if-is_impossible.false) (eq-eqb _ _ c.if-s-ne1.false) c.if-staging-announced.false).0)

pub settle-requires : goal.settle-requires
settle-requires c =
    let z = sized c.args.s c.args.staging.now c.args.kept.now (sym c.is_impossible.ensures ∙ c.if-is_impossible.false) (eq-eqb _ _ c.if-s-ne1.false) c.if-staging-announced.false in
    (z.2, z.3, c.requires)

pub returns : goal.returns
unfolding activate_of kept_after is_checked records_for
returns c = rw (sym c.is_impossible.ensures ∙ c.if-is_impossible.false, eq-eqb _ _ c.if-s-ne1.false, le-ltb _ _ c.if-s.false, c.if-staging-announced.false) (c.settle.ensures.0, c.settle.ensures.1, c.settle.ensures.2, λ h. c.settle.ensures.3)
