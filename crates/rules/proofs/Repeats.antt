-- A record whose key an earlier one has: rules 2, 3 and 8; a key that no record has: rules 10 and 11. Assumes nothing.
use mathlib.Core.Path.{◌≡◌, refl, sym, ap, ◌∙◌}
use mathlib.Core.Bool.{true}
use mathlib.Core.List.{List}
use Prim.Native.Nat.{ℕ, zero, suc, ◌<◌}
use native.Mathlib.Decide.{ℕ_discrete, dec_lt}
use native.Mathlib.Omega.{arith}
use borrow.Author.Tests.{eq-eqb, ne_eqb}
use Rattle.views.specs.Fields.{element_of}
use Rattle.pool.specs.Reading.{Entry}
use Rattle.naming.specs.Records.{start_at, kind_at}
use Rattle.naming.specs.Naming.{first_of, type_key}
use Rattle.naming.proofs.First.{Without, first-none, first_some}
use Rattle.rules.specs.Table.{repeats, element_key}
use Rattle.rules.proofs.Truth.{differ, to-differ}

module _ (key : ℕ → ℕ) (x i n : ℕ) where
  -- record i has the key and is not the first with it
  pub repeats-earlier : i < n → key i ≡ x → repeats key x i n ≡ true → (j : ℕ) × (j < i) × (key j ≡ x)
  unfolding repeats
  repeats-earlier l k e = go (first_of key x n) refl
    where
      by_order : (j : ℕ) → first_of key x n ≡ suc j → Dec (j < i) → (key j ≡ x) × Without key x j → (j : ℕ) × (j < i) × (key j ≡ x)
      by_order j f (yes b) s = (j, b, s.0)
      by_order j f (no b) s =
          let other : j ≡ i → ⊥ = λ (q : j ≡ i). differ (first_of key x n) (suc i) e (f ∙ ap suc q) in
          absurd (s.1 i (omega arith) k)

      go : (f : ℕ) → first_of key x n ≡ f → (j : ℕ) × (j < i) × (key j ≡ x)
      go zero f = absurd (first-none key x n f i l k)
      go (suc j) f = let s = first_some key x n j f in by_order j f (dec_lt j i) (s.1, s.2)

  pub earlier-repeats : (j : ℕ) → j < i → key j ≡ x → repeats key x i n ≡ true
  unfolding repeats
  earlier-repeats j l k = to-differ (first_of key x n) (suc i) (λ (f : first_of key x n ≡ suc i). (first_some key x n i f).2 j l k)

-- ---- the keys of a device element
module _ (p : List ℕ) (es : List Entry) (i : ℕ) where
  pub element-key : kind_at es i ≡ 2 → element_key p es i ≡ suc (element_of p (start_at es i)).number
  element-key e = rw (eq-eqb (kind_at es i) 2 e)

  pub key-element : (x : ℕ) → element_key p es i ≡ suc x → (kind_at es i ≡ 2) × ((element_of p (start_at es i)).number ≡ x)
  key-element x e = go (ℕ_discrete (kind_at es i) 2)
    where
      go : Dec (kind_at es i ≡ 2) → (kind_at es i ≡ 2) × ((element_of p (start_at es i)).number ≡ x)
      go (yes k) = (k, omega (arith, element-key k, e))
      go (no k) = let z : 0 ≡ suc x = rw (ne_eqb (kind_at es i) 2 k) at e in absurd (omega arith)

  pub type-key : kind_at es i ≡ 2 → type_key p es i ≡ (element_of p (start_at es i)).element_type
  type-key e = rw (eq-eqb (kind_at es i) 2 e)

  pub key-type : type_key p es i ≡ 1 → (kind_at es i ≡ 2) × ((element_of p (start_at es i)).element_type ≡ 1)
  key-type e = go (ℕ_discrete (kind_at es i) 2)
    where
      go : Dec (kind_at es i ≡ 2) → (kind_at es i ≡ 2) × ((element_of p (start_at es i)).element_type ≡ 1)
      go (yes k) = (k, sym (type-key k) ∙ e)
      go (no k) = let z : ◌≡◌ {A = ℕ} 256 1 = rw (ne_eqb (kind_at es i) 2 k) at e in absurd (omega arith)
