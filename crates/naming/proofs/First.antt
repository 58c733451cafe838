-- `first_of` is the number of the first record with a key. Assumes nothing.
use mathlib.Core.Path.{◌≡◌, refl, sym, ap, ◌∙◌}
use Prim.Native.Nat.{ℕ, zero, suc, ◌+◌, ◌≤◌, ◌<◌}
use native.Mathlib.Nat.{not-suc-le-zero}
use native.Mathlib.Numerals.{add-one}
use native.Mathlib.Decide.{ℕ_discrete, dec_lt}
use native.Mathlib.Omega.{arith}
use borrow.Author.Tests.{eq-eqb, ne_eqb}
use Rattle.naming.specs.Naming.{or_else, first_of}

or-zero : (a : ℕ) → or_else a 0 ≡ a
or-zero zero = refl
or-zero (suc a) = refl

or_some : (a b : ℕ) → (a ≡ 0 → ⊥) → or_else a b ≡ a
or_some zero b h = absurd (h refl)
or_some (suc a) b h = refl

-- none of the first n records has the key
abbrev pub Without : (ℕ → ℕ) → ℕ → ℕ → Type 0
Without key x n = (j : ℕ) → j < n → key j ≡ x → ⊥

-- one record more: another key, a key that was there before, or the first with it
module _ (key : ℕ → ℕ) (x n : ℕ) where
  pub first-other : (key n ≡ x → ⊥) → first_of key x (n + 1) ≡ first_of key x n
  unfolding first_of
  first-other h = rw (add-one n, ne_eqb (key n) x h) (or-zero (first_of key x n))

  pub first-kept : (first_of key x n ≡ 0 → ⊥) → first_of key x (n + 1) ≡ first_of key x n
  unfolding first_of
  first-kept h = rw (add-one n) (or_some (first_of key x n) _ h)

  pub first-here : first_of key x n ≡ 0 → key n ≡ x → first_of key x (n + 1) ≡ n + 1
  unfolding first_of
  first-here h e = rw (add-one n, h, eq-eqb (key n) x e)

module _ (key : ℕ → ℕ) (x : ℕ) where
  pub first-none : (n : ℕ) → first_of key x n ≡ 0 → (j : ℕ) → j < n → key j ≡ x → ⊥
  first-none zero e j h q = not-suc-le-zero h
  first-none (suc n) e j h q = go (ℕ_discrete (first_of key x n) 0) (ℕ_discrete (key n) x) (ℕ_discrete j n) (first-none n)
    where
      e' : first_of key x (n + 1) ≡ 0
      e' = rw (add-one n) e

      go : Dec (first_of key x n ≡ 0) → Dec (key n ≡ x) → Dec (j ≡ n) → (first_of key x n ≡ 0 → Without key x n) → ⊥
      go (no f) k d before = f (sym (first-kept key x n f) ∙ e')
      go (yes f) (yes k) d before =
          let z : n + 1 ≡ 0 = sym (first-here key x n f k) ∙ e' in
          omega arith
      go (yes f) (no k) (yes d) before = k (ap key (sym d) ∙ q)
      go (yes f) (no k) (no d) before = before f j (omega arith) q

  pub first_some : (n i : ℕ) → first_of key x n ≡ suc i → (i < n) × (key i ≡ x) × Without key x i
  unfolding first_of
  first_some zero i e = absurd (omega arith)
  first_some (suc n) i e = go (ℕ_discrete (first_of key x n) 0) (ℕ_discrete (key n) x) (first_some n i)
    where
      e' : first_of key x (n + 1) ≡ suc i
      e' = rw (add-one n) e

      go : Dec (first_of key x n ≡ 0) → Dec (key n ≡ x) → (first_of key x n ≡ suc i → (i < n) × (key i ≡ x) × Without key x i) → (i < suc n) × (key i ≡ x) × Without key x i
      go (no f) k before =
          let s = before (sym (first-kept key x n f) ∙ e') in
          (omega arith, s.1, s.2)
      go (yes f) (yes k) before =
          let z : n + 1 ≡ suc i = sym (first-here key x n f k) ∙ e' in
          let same : i ≡ n = omega arith in
          rw same (omega arith, k, first-none n f)
      go (yes f) (no k) before =
          let z : suc i ≡ 0 = sym e' ∙ first-other key x n k ∙ f in
          absurd (omega arith)

  pub first-le : (n : ℕ) → first_of key x n ≤ n
  first-le n = go (first_of key x n) refl
    where
      go : (f : ℕ) → first_of key x n ≡ f → first_of key x n ≤ n
      go zero e = omega arith
      go (suc i) e = omega (arith, (first_some n i e).0)

  pub to_none : (n : ℕ) → Without key x n → first_of key x n ≡ 0
  to_none n h = go (first_of key x n) refl
    where
      go : (f : ℕ) → first_of key x n ≡ f → first_of key x n ≡ 0
      go zero e = e
      go (suc i) e = let s = first_some n i e in absurd (h i s.0 s.1)

  pub to-first : (n i : ℕ) → i < n → key i ≡ x → Without key x i → first_of key x n ≡ suc i
  to-first n i l k h = go (first_of key x n) refl
    where
      same : (m : ℕ) → (key m ≡ x) × Without key x m → Dec (m < i) → Dec (i < m) → m ≡ i
      same m s (yes a) b = absurd (h m a s.0)
      same m s (no a) (yes b) = absurd (s.1 i b k)
      same m s (no a) (no b) = omega arith

      go : (f : ℕ) → first_of key x n ≡ f → first_of key x n ≡ suc i
      go zero e = absurd (first-none n e i l k)
      go (suc m) e = let s = first_some n m e in e ∙ ap suc (same m (s.1, s.2) (dec_lt m i) (dec_lt i m))

-- keys that agree on the first n records give the same number
pub first-ext : (f g : ℕ → ℕ) (x n : ℕ) → ((j : ℕ) → j < n → f j ≡ g j) → first_of f x n ≡ first_of g x n
unfolding first_of
first-ext f g x zero h = refl
first-ext f g x (suc n) h = rw (first-ext f g x n (λ (j : ℕ) (l : j < n). h j (omega arith)), h n (omega arith))
