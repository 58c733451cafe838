-- Laws about combined tests. Assumes nothing.
use mathlib.Core.Path.{◌≡◌, refl, sym, ap, ◌∙◌}
use mathlib.Core.Bool.{Bool, true, false, cond, not, ◌&&◌, ◌||◌, true≢false}
use mathlib.Core.Logic.{◌⊎◌, inl, inr}
use Prim.Native.Nat.{ℕ}
use borrow.Author.Tests.{eqb-false, ne_eqb, not-true}
use lib.Dec.{eqb}
pub use Rattle.wire.proofs.Either.{both}

pub untrue : {X : Type 0} → false ≡ true → X
untrue e = absurd (true≢false (sym e))

pub to_both : {a b : Bool} → a ≡ true → b ≡ true → a && b ≡ true
to_both a b = rw (a, b)

pub either : (a b : Bool) → a || b ≡ true → (a ≡ true) ⊎ (b ≡ true)
either true b e = inl refl
either false b e = inr e

pub to-left : {a : Bool} (b : Bool) → a ≡ true → a || b ≡ true
to-left b e = rw e

pub to-right : (a : Bool) {b : Bool} → b ≡ true → a || b ≡ true
to-right true e = refl
to-right false e = e

-- a test that says what does not hold
pub denied : {X : Type 0} (a : Bool) → (X → a ≡ true) → not a ≡ true → X → ⊥
denied a h e x = true≢false (sym (h x) ∙ not-true a e)

pub to-denied : {X : Type 0} (a : Bool) → (a ≡ true → X) → (X → ⊥) → not a ≡ true
to-denied true h n = absurd (n (h refl))
to-denied false h n = refl

-- two numbers that differ
pub differ : (a b : ℕ) → not (eqb a b) ≡ true → a ≡ b → ⊥
differ a b e = eqb-false a b (not-true (eqb a b) e)

pub to-differ : (a b : ℕ) → (a ≡ b → ⊥) → not (eqb a b) ≡ true
to-differ a b n = ap not (ne_eqb a b n)

-- a number or 0, by a test
pub chosen : (t : Bool) (a b : ℕ) → (b ≡ 0 → ⊥) → cond t a 0 ≡ b → (t ≡ true) × (a ≡ b)
chosen true a b n e = (refl, e)
chosen false a b n e = absurd (n (sym e))
