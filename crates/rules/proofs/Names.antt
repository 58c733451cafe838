-- What an ID names and what a reference may name, as tests and in the table's words. Assumes nothing.
use mathlib.Core.Path.{◌≡◌, refl, sym, ap, ◌∙◌}
use mathlib.Core.Bool.{Bool, true, not}
use mathlib.Core.List.{List}
use mathlib.Core.Logic.{inl, inr, ⊎_elim}
use Prim.Native.Nat.{ℕ, zero, suc, ◌<◌}
use native.Mathlib.Decide.{ℕ_discrete}
use native.Mathlib.Omega.{arith}
use borrow.Author.Tests.{eq-eqb, ne_eqb, eqb-true}
use lib.Dec.{eqb}
use lib.ListN.{length}
use Rattle.records.specs.Layout.{kind_code}
use Rattle.records.specs.declared.Kind.{Kind}
use Rattle.records.specs.declared.Kind.TheVariants.{Dvc, Det, Dpd, Dpt, Dvp}
use Rattle.pool.specs.Reading.{Entry}
use Rattle.naming.specs.Records.{id_at, kind_at}
use Rattle.naming.specs.Naming.{named, kind_of, is_data_kind}
use Rattle.naming.proofs.First.{first_some, to-first}
use Rattle.rules.specs.Breach.{Is, Names, Role, parent, entry, presentation, Fits}
use Rattle.rules.specs.Table.{is_parent_kind, is_wrong_kind}
use Rattle.rules.proofs.Truth.{both, to_both, either, to-left, to-right, denied, to-denied, differ, to-differ}

module _ (es : List Entry) (x : ℕ) where
  pub named-names : (i : ℕ) → named es x ≡ suc i → Names es x i
  unfolding named
  named-names i e = go (ℕ_discrete x 65535)
    where
      go : Dec (x ≡ 65535) → Names es x i
      go (yes q) =
          let z : 0 ≡ suc i = rw (eq-eqb x 65535 q) at e in
          absurd (omega arith)
      go (no q) =
          let s = first_some (id_at es) x (length es) i (rw (ne_eqb x 65535 q) at e) in
          record { real = q; there = s.0; carries = s.1; first = s.2 }

  pub names-named : {i : ℕ} → Names es x i → named es x ≡ suc i
  unfolding named
  names-named {i} n = rw (ne_eqb x 65535 n.real) (to-first (id_at es) x (length es) i n.there n.carries n.first)

  pub named_none : named es x ≡ 0 → (i : ℕ) → Names es x i → ⊥
  named_none e i n = omega (arith, e, names-named n)

  pub none_named : ((i : ℕ) → Names es x i → ⊥) → named es x ≡ 0
  none_named h = go (named es x) refl
    where
      go : (r : ℕ) → named es x ≡ r → named es x ≡ 0
      go zero e = e
      go (suc i) e = absurd (h i (named-names i e))

  pub kind-named : {i : ℕ} → Names es x i → kind_of es (named es x) ≡ kind_at es i
  kind-named n = ap (kind_of es) (names-named n)

-- ---- the kinds that a role may have
abbrev pub suits : Role → ℕ → Bool
suits parent k = is_parent_kind k
suits entry k = is_data_kind k
suits presentation k = eqb k 5

pub test-is : (es : List Entry) (k : Kind) (i : ℕ) → i < length es → eqb (kind_at es i) (kind_code k) ≡ true → Is es k i
test-is es k i l e = record { there = l; kind = eqb-true (kind_at es i) (kind_code k) e }

module _ (es : List Entry) (i : ℕ) where
  pub is-test : (k : Kind) → Is es k i → eqb (kind_at es i) (kind_code k) ≡ true
  is-test k h = eq-eqb (kind_at es i) (kind_code k) h.kind

  fits-suits : (r : Role) → Fits r es i → suits r (kind_at es i) ≡ true
  fits-suits parent f = ⊎_elim (λ h. to-left (eqb (kind_at es i) 2) (is-test Dvc h)) (λ h. to-right (eqb (kind_at es i) 1) (is-test Det h)) f
  fits-suits entry f = ⊎_elim (λ h. to-left (eqb (kind_at es i) 4) (is-test Dpd h)) (λ h. to-right (eqb (kind_at es i) 3) (is-test Dpt h)) f
  fits-suits presentation f = is-test Dvp f

  suits-fits : (r : Role) → i < length es → suits r (kind_at es i) ≡ true → Fits r es i
  suits-fits parent l e = ⊎_elim (λ h. inl (test-is es Dvc i l h)) (λ h. inr (test-is es Det i l h)) (either (eqb (kind_at es i) 1) (eqb (kind_at es i) 2) e)
  suits-fits entry l e = ⊎_elim (λ h. inl (test-is es Dpd i l h)) (λ h. inr (test-is es Dpt i l h)) (either (eqb (kind_at es i) 3) (eqb (kind_at es i) 4) e)
  suits-fits presentation l e = test-is es Dvp i l e

-- ---- rule 7: an ID names a record of a kind that its role may not have
abbrev pub wrongly : List Entry → Role → ℕ → Bool
wrongly es r x = is_wrong_kind (suits r (kind_of es (named es x))) (named es x)

module _ (es : List Entry) (x : ℕ) (r : Role) where
  pub wrong-names : wrongly es r x ≡ true → (j : ℕ) × Names es x j × (Fits r es j → ⊥)
  wrong-names e = go (named es x) refl
    where
      t : Bool
      t = suits r (kind_of es (named es x))

      w : (not (eqb (named es x) 0) ≡ true) × (not t ≡ true)
      w = both (not (eqb (named es x) 0)) (not t) e

      go : (n : ℕ) → named es x ≡ n → (j : ℕ) × Names es x j × (Fits r es j → ⊥)
      go zero q = absurd (differ (named es x) 0 w.0 q)
      go (suc j) q =
          let n : Names es x j = named-names es x j q in
          let k : kind_of es (named es x) ≡ kind_at es j = kind-named es x n in
          (j, n, denied t (λ (f : Fits r es j). ap (suits r) k ∙ fits-suits es j r f) w.1)

  pub names-wrong : {j : ℕ} → Names es x j → (Fits r es j → ⊥) → wrongly es r x ≡ true
  names-wrong {j} n f =
      let k : kind_of es (named es x) ≡ kind_at es j = kind-named es x n in
      to_both (to-differ (named es x) 0 (λ (z : named es x ≡ 0). named_none es x z j n))
      (to-denied (suits r (kind_of es (named es x))) (λ (e : suits r (kind_of es (named es x)) ≡ true). suits-fits es j r n.there (ap (suits r) (sym k) ∙ e)) f)
