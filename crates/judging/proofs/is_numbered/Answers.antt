-- `judging::is_numbered` meets its contract.
use mathlib.Core.Path.{◌≡◌, sym, ap, ◌∙◌}
use Prim.Native.Nat.{ℕ, suc}
use native.Mathlib.Decide.{ℕ_discrete}
use native.Mathlib.Omega.{arith}
use borrow.Author.Tests.{eq-eqb, ne_eqb}
use lib.Dec.{eqb}
use Rattle.records.specs.Layout.{kind_code, mark_code}
use Rattle.records.specs.declared.Kind.TheVariants.{Det}
use Rattle.views.specs.Fields.{element_of}
use Rattle.judging.proofs.is_numbered.Goals as goal

-- two numbers are the same if they are with 1 added
one_more : (a b : ℕ) → eqb a b ≡ eqb (suc a) (suc b)
one_more a b = go (ℕ_discrete a b)
  where
    go : Dec (a ≡ b) → eqb a b ≡ eqb (suc a) (suc b)
    go (yes e) = eq-eqb a b e ∙ sym (eq-eqb (suc a) (suc b) (ap suc e))
    go (no n) = ne_eqb a b n ∙ sym (ne_eqb (suc a) (suc b) (λ (e : suc a ≡ suc b). n (omega (arith, e))))

pub returns-in-Some-Det : goal.returns-in-Some-Det
returns-in-Some-Det c =
    let a = c.args in
    let one : c.in-Some-Det.field-0 ≡ Det = rw c.in-Some-Det.is at c.in-Some-Det.field-0-is in
    let is : mark_code a.kind ≡ 2 = ap mark_code c.in-Some-Det.is ∙ ap kind_code one in
    rw (is, c.device_element.ensures) (one_more (element_of a.p.now a.at).number a.element)
