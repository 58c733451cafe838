-- The record that a record's parent names. Assumes nothing.
use mathlib.Core.Path.{◌≡◌, refl, sym, ap, ◌∙◌}
use mathlib.Core.Bool.{cond}
use mathlib.Core.List.{List}
use Prim.Native.Nat.{ℕ, zero, suc, ◌-◌, ◌≤◌}
use native.Mathlib.Omega.{arith}
use borrow.Author.Tests.{eq-eqb, ne_eqb}
use lib.Dec.{eqb}
use Rattle.views.specs.Fields.{element_of}
use Rattle.pool.specs.Reading.{Entry}
use Rattle.naming.specs.Records.{start_at, kind_at}
use Rattle.naming.specs.Naming.{named, kind_of, parent_of}

-- what has a kind is there
pub kind-some : (es : List Entry) (number : ℕ) → kind_of es number ≡ 2 → 1 ≤ number
kind-some es zero e = absurd (omega arith)
kind-some es (suc i) e = omega arith

module _ (p : List ℕ) (es : List Entry) where
  pub parent-none : (number : ℕ) → (kind_of es number ≡ 2 → ⊥) → 0 ≡ parent_of p es number
  unfolding parent_of
  parent-none zero h = refl
  parent-none (suc i) h = rw (ne_eqb (kind_at es i) 2 h)

  module _ (number r : ℕ) (own : kind_of es number ≡ 2) (names : r ≡ named es (element_of p (start_at es (number - 1))).parent) where
    parent_by : cond (eqb (kind_of es r) 2) r 0 ≡ parent_of p es number
    unfolding parent_of
    parent_by = go number own names
      where
        go : (k : ℕ) → kind_of es k ≡ 2 → r ≡ named es (element_of p (start_at es (k - 1))).parent → cond (eqb (kind_of es r) 2) r 0 ≡ parent_of p es k
        go zero o q = absurd (omega arith)
        go (suc i) o q =
            let e : suc i - 1 ≡ i = omega arith in
            let q' : r ≡ named es (element_of p (start_at es i)).parent = rw e at q in
            rw (eq-eqb (kind_at es i) 2 o) (ap (λ (x : ℕ). cond (eqb (kind_of es x) 2) x 0) q')

    pub parent-some : kind_of es r ≡ 2 → r ≡ parent_of p es number
    parent-some k = sym (rw (eq-eqb (kind_of es r) 2 k)) ∙ parent_by

    pub parent-other : (kind_of es r ≡ 2 → ⊥) → 0 ≡ parent_of p es number
    parent-other k = sym (rw (ne_eqb (kind_of es r) 2 k)) ∙ parent_by
