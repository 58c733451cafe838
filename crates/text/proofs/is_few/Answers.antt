-- `text::is_few` meets its contract: the characters passed so far and those still to be counted make up the whole count.
use mathlib.Core.Path.{sym, ap, ◌∙◌}
use native.Mathlib.Omega.{arith}
use borrow.Author.Tests.{eqb-true, eqb-false}
use Rattle.text.specs.Characters.{characters_in}
use Rattle.text.specs.Examined.{few}
use Rattle.text.proofs.Steps.{none, passed-more, few-passed, few-malformed, few-all-passed}
use Rattle.text.proofs.is_few.Goals as goal

pub loop-init : goal.loop-init
loop-init c = none (characters_in 0 c.args.s.now)

pub returns-then-is_empty : goal.returns-then-is_empty
returns-then-is_empty c =
    let l = c.loop in
    sym (few-passed l.counter l.rest.now (omega arith) (eqb-true _ 0 (sym c.is_empty.ensures ∙ c.if-is_empty.true))) ∙ ap few l.invariant

pub returns-in-None : goal.returns-in-None
returns-in-None c =
    let l = c.loop in
    let n = eqb-false _ 0 (sym c.is_empty.ensures ∙ c.if-is_empty.false) in
    sym (few-malformed l.counter l.rest.now (omega arith) c.in-None.ensures) ∙ ap few l.invariant

pub loop-preserved : goal.loop-preserved
loop-preserved c =
    let l = c.loop in
    let n = eqb-false _ 0 (sym c.is_empty.ensures ∙ c.if-is_empty.false) in
    passed-more l.counter l.rest.now _ (omega arith) c.in-Some.ensures.0 c.in-Some.ensures.1 ∙ l.invariant

pub returns : goal.returns
returns c = let l = c.loop in c.is_empty-2.ensures ∙ few-all-passed l.counter l.rest.now (omega arith) ∙ ap few l.invariant
