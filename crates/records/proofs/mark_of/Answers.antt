-- `records::mark_of` meets its contract: if two letters differ from those of a mark as a number, at least one of them differs.
use mathlib.Core.Path.{◌≡◌}
use mathlib.Core.Bool.{true, false, ◌&&◌}
use Prim.Native.Nat.{ℕ, ◌+◌, ◌*◌}
use native.Mathlib.Decide.{ℕ_discrete}
use native.Mathlib.Omega.{arith}
use borrow.Author.Tests.{ne_eqb, eq-eqb}
use lib.Dec.{eqb}
use Rattle.records.specs.Layout.{mark_of, mark}
use Rattle.records.proofs.mark_of.Goals as goal

apart : (b c x y : ℕ) → (b + 256 * c ≡ x + 256 * y → ⊥) → eqb b x && (eqb c y && true) ≡ false
apart b c x y h = go (ℕ_discrete b x) (ℕ_discrete c y)
  where
    go : Dec (b ≡ x) → Dec (c ≡ y) → eqb b x && (eqb c y && true) ≡ false
    go (no n) d = rw (ne_eqb b x n)
    go (yes e) (no n) = rw (eq-eqb b x e, ne_eqb c y n)
    go (yes e) (yes f) = absurd (h (omega (arith, e, f)))

pub returns-then-a-ne68 : goal.returns-then-a-ne68
unfolding mark_of mark
returns-then-a-ne68 c =
    rw (ne_eqb c.args.a 68 c.if-a-ne68.true)

pub returns-in-17488 : goal.returns-in-17488
unfolding mark_of mark
returns-in-17488 c =
    let a = c.args in
    let second : a.b ≡ 80 = omega (arith, c.in-17488.is) in
    let third : a.c ≡ 68 = omega (arith, c.in-17488.is) in
    rw (c.if-a-ne68.false, second, third)

pub returns-in-21584 : goal.returns-in-21584
unfolding mark_of mark
returns-in-21584 c =
    let a = c.args in
    let second : a.b ≡ 80 = omega (arith, c.in-21584.is) in
    let third : a.c ≡ 84 = omega (arith, c.in-21584.is) in
    rw (c.if-a-ne68.false, second, third)

pub returns-in-21573 : goal.returns-in-21573
unfolding mark_of mark
returns-in-21573 c =
    let a = c.args in
    let second : a.b ≡ 69 = omega (arith, c.in-21573.is) in
    let third : a.c ≡ 84 = omega (arith, c.in-21573.is) in
    rw (c.if-a-ne68.false, second, third)

pub returns-in-20566 : goal.returns-in-20566
unfolding mark_of mark
returns-in-20566 c =
    let a = c.args in
    let second : a.b ≡ 86 = omega (arith, c.in-20566.is) in
    let third : a.c ≡ 80 = omega (arith, c.in-20566.is) in
    rw (c.if-a-ne68.false, second, third)

pub returns-in-17238 : goal.returns-in-17238
unfolding mark_of mark
returns-in-17238 c =
    let a = c.args in
    let second : a.b ≡ 86 = omega (arith, c.in-17238.is) in
    let third : a.c ≡ 67 = omega (arith, c.in-17238.is) in
    rw (c.if-a-ne68.false, second, third)

pub returns-in_default : goal.returns-in_default
unfolding mark_of mark
returns-in_default c =
    let a = c.args in
    rw (c.if-a-ne68.false, apart a.b a.c 86 67 (λ e. omega (arith, e)), apart a.b a.c 69 84 (λ e. omega (arith, e)), apart a.b a.c 80 68 (λ e. omega (arith, e)), apart a.b a.c 80 84 (λ e. omega (arith, e)), apart a.b a.c 86 80 (λ e. omega (arith, e)))
