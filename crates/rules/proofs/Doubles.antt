-- Rule 12: an entry whose DDI an earlier entry of the list has. Assumes nothing.
use mathlib.Core.Path.{◌≡◌, refl, sym, ap, ◌∙◌, subst}
use mathlib.Core.Bool.{true, not}
use mathlib.Core.List.{List}
use mathlib.Core.Logic.{⊎_elim}
use Prim.Native.Nat.{ℕ, zero, suc, ◌+◌, ◌<◌}
use native.Mathlib.Nat.{eq-or-lt_of_le}
use native.Mathlib.Omega.{arith}
use borrow.Author.Tests.{eq-eqb, eqb-true}
use lib.Dec.{eqb}
use Rattle.wire.specs.Bytes.{number_in}
use Rattle.records.specs.Layout.{layout}
use Rattle.records.specs.Places.{field_at}
use Rattle.records.specs.declared.Kind.TheVariants.{Dpd, Dpt}
use Rattle.views.specs.Fields.{entry_of, process_data_of, property_of}
use Rattle.pool.specs.Reading.{Entry}
use Rattle.naming.specs.Records.{start_at, kind_at}
use Rattle.naming.specs.Naming.{kind_of, ddi_of, is_data_kind, tag_of, among}
use Rattle.rules.specs.Breach.{Is, Names, EntryDdi, data_ddi, property_ddi}
use Rattle.rules.specs.Table.{doubled, entry_named}
use Rattle.rules.proofs.Truth.{untrue, both, to_both, either, to-left, to-right, differ, to-differ, chosen}
use Rattle.rules.proofs.Names.{named-names, names-named, test-is, is-test}

-- ---- among the first n
module _ (f : ℕ → ℕ) (x : ℕ) where
  pub among-some : (n : ℕ) → among f x n ≡ true → (j : ℕ) × (j < n) × (f j ≡ x)
  unfolding among
  among-some zero e = untrue e
  among-some (suc n) e =
      ⊎_elim
      (λ (t : among f x n ≡ true). let s = among-some n t in (s.0, omega (arith, s.1), s.2))
      (λ (t : eqb (f n) x ≡ true). (n, omega arith, eqb-true (f n) x t))
      (either (among f x n) (eqb (f n) x) e)

  pub some-among : (n j : ℕ) → j < n → f j ≡ x → among f x n ≡ true
  unfolding among
  some-among zero j l e = absurd (omega arith)
  some-among (suc n) j l e =
      ⊎_elim
      (λ (s : j ≡ n). to-right (among f x n) (eq-eqb (f n) x (ap f (sym s) ∙ e)))
      (λ (s : j < n). to-left (eqb (f n) x) (some-among n j s e))
      (eq-or-lt_of_le (omega arith))

-- a tag that is none doubles nothing; another is one more than a DDI
module _ (tag : ℕ → ℕ) (m : ℕ) where
  pub doubled-earlier : doubled tag m ≡ true → (j : ℕ) × (ddi : ℕ) × (j < m) × (tag j ≡ suc ddi) × (tag m ≡ suc ddi)
  unfolding doubled
  doubled-earlier e = go (tag m) refl
    where
      t : (not (eqb (tag m) 0) ≡ true) × (among tag (tag m) m ≡ true)
      t = both (not (eqb (tag m) 0)) (among tag (tag m) m) e

      go : (n : ℕ) → tag m ≡ n → (j : ℕ) × (ddi : ℕ) × (j < m) × (tag j ≡ suc ddi) × (tag m ≡ suc ddi)
      go zero q = absurd (differ (tag m) 0 t.0 q)
      go (suc ddi) q = let s = among-some tag (tag m) m t.1 in (s.0, ddi, s.1, s.2 ∙ q, q)

  pub earlier-doubled : (j ddi : ℕ) → j < m → tag j ≡ suc ddi → tag m ≡ suc ddi → doubled tag m ≡ true
  unfolding doubled
  earlier-doubled j ddi l a b =
      to_both (to-differ (tag m) 0 (λ (z : tag m ≡ 0). omega (arith, z, b))) (some-among tag (tag m) m j l (a ∙ sym b))

-- ---- the DDI of process data and of a property stands at the same place
data-place : (p : List ℕ) (at : ℕ) → (process_data_of p at).ddi ≡ number_in 2 p (at + 5)
unfolding process_data_of field_at layout
data-place p at = ap (number_in 2 p) (omega arith)

property-place : (p : List ℕ) (at : ℕ) → (property_of p at).ddi ≡ number_in 2 p (at + 5)
unfolding property_of field_at layout
property-place p at = ap (number_in 2 p) (omega arith)

module _ (p : List ℕ) (es : List Entry) where
  -- the number of a record with a tag is that of process data or a property
  tagged : (r ddi : ℕ) → tag_of p es r ≡ suc ddi → (is_data_kind (kind_of es r) ≡ true) × (ddi_of p es r ≡ ddi)
  unfolding tag_of
  tagged r ddi e =
      let c = chosen (is_data_kind (kind_of es r)) (suc (ddi_of p es r)) (suc ddi) (λ (z : suc ddi ≡ 0). omega arith) e in
      (c.0, omega (arith, c.1))

  tag : (r k : ℕ) → r ≡ suc k → is_data_kind (kind_at es k) ≡ true → tag_of p es r ≡ suc (number_in 2 p (start_at es k + 5))
  unfolding tag_of
  tag r k e t = rw (e, t)

  module _ (i j : ℕ) where
    pub ddi-tag : {ddi : ℕ} → EntryDdi p es i j ddi → tag_of p es (entry_named p es (start_at es i) j) ≡ suc ddi
    ddi-tag (data_ddi {k} n h) =
        tag (entry_named p es (start_at es i) j) k (names-named es (entry_of p (start_at es i) j) n) (to-left (eqb (kind_at es k) 4) (is-test es k Dpd h))
        ∙ ap suc (sym (data-place p (start_at es k)))
    ddi-tag (property_ddi {k} n h) =
        tag (entry_named p es (start_at es i) j) k (names-named es (entry_of p (start_at es i) j) n) (to-right (eqb (kind_at es k) 3) (is-test es k Dpt h))
        ∙ ap suc (sym (property-place p (start_at es k)))

    pub tag-ddi : (ddi : ℕ) → tag_of p es (entry_named p es (start_at es i) j) ≡ suc ddi → EntryDdi p es i j ddi
    tag-ddi ddi e = go (entry_named p es (start_at es i) j) refl e
      where
        x : ℕ
        x = entry_of p (start_at es i) j

        of-data : (k : ℕ) → Names es x k → number_in 2 p (start_at es k + 5) ≡ ddi → Is es Dpd k → EntryDdi p es i j ddi
        of-data k n q h = subst (EntryDdi p es i j) (data-place p (start_at es k) ∙ q) (data_ddi n h)

        of-property : (k : ℕ) → Names es x k → number_in 2 p (start_at es k + 5) ≡ ddi → Is es Dpt k → EntryDdi p es i j ddi
        of-property k n q h = subst (EntryDdi p es i j) (property-place p (start_at es k) ∙ q) (property_ddi n h)

        go : (r : ℕ) → entry_named p es (start_at es i) j ≡ r → tag_of p es r ≡ suc ddi → EntryDdi p es i j ddi
        go zero q t = untrue (tagged 0 ddi t).0
        go (suc k) q t =
            let n : Names es x k = named-names es x k q in
            let s = tagged (suc k) ddi t in
            ⊎_elim
            (λ h. of-data k n s.1 (test-is es Dpd k n.there h))
            (λ h. of-property k n s.1 (test-is es Dpt k n.there h))
            (either (eqb (kind_at es k) 3) (eqb (kind_at es k) 4) s.0)
