-- Rule 12's walk: what the list of DDIs seen holds, and what follows for the tags. Assumes nothing.
use mathlib.Core.Path.{◌≡◌, refl, sym, ap, ◌∙◌}
use mathlib.Core.Bool.{true, false}
use mathlib.Core.Logic.{◌⊎◌, inl, inr, ⊎_elim}
use mathlib.Core.List.{List}
use Prim.Native.Nat.{ℕ, zero, suc, ◌+◌, ◌<◌}
use native.Mathlib.Nat.{eq-or-lt_of_le}
use native.Mathlib.Omega.{arith}
use borrow.Author.Tests.{ne_eqb}
use lib.ListN.{length, get_or, set, take}
use lib.Seq.{get_or-take, get_or-set_same, get_or-set_other}
use Rattle.naming.specs.Naming.{among}
use Rattle.rules.specs.Table.{doubled}
use Rattle.rules.proofs.Doubles.{some-among}
use Rattle.reference_rules.specs.Lists.{Holds, Seen}

-- ---- the first items of a list

pub holds-none : {l : List ℕ} {x : ℕ} → Holds l 0 x → ⊥
holds-none h = omega (arith, h.before)

-- a place before the next is before this one or is this one
last : {l : List ℕ} {k x : ℕ} → Holds l (k + 1) x → Holds l k x ⊎ (get_or l k 0 ≡ x)
last {l} {k} {x} h =
    ⊎_elim
    (λ (e : h.at ≡ k). inr (ap (λ (i : ℕ). get_or l i 0) (sym e) ∙ h.is))
    (λ (b : h.at < k). inl (record { at = h.at; before = b; is = h.is }))
    (eq-or-lt_of_le (omega (arith, h.before)))

-- it is not among the first items, and not the next one
pub holds-nowhere : {l : List ℕ} {k x : ℕ} → (Holds l k x → ⊥) → (get_or l k 0 ≡ x → ⊥) → Holds l (k + 1) x → ⊥
holds-nowhere before here h = ⊎_elim before here (last h)

-- what is among the first items is among them alone
pub among_kept : {l : List ℕ} {k x : ℕ} → Holds l k x → Holds (take k l) k x
among_kept {l} {k} h = record { at = h.at; before = h.before; is = get_or-take k l h.at 0 h.before ∙ h.is }

-- ---- the tags

among_none : (tag : ℕ → ℕ) (x n : ℕ) → ((j : ℕ) → j < n → tag j ≡ x → ⊥) → among tag x n ≡ false
unfolding among
among_none tag x zero h = refl
among_none tag x (suc n) h =
    rw (among_none tag x n (λ (j : ℕ) (l : j < n) (e : tag j ≡ x). h j (omega arith) e), ne_eqb (tag n) x (λ (e : tag n ≡ x). h n (omega arith) e))

-- an entry without a tag doubles none
pub plain : (tag : ℕ → ℕ) (m : ℕ) → tag m ≡ 0 → doubled tag m ≡ false
unfolding doubled
plain tag m e = rw e

-- nor does one whose tag no earlier entry has
pub lone : (tag : ℕ → ℕ) (m : ℕ) → (tag m ≡ 0 → ⊥) → ((j : ℕ) → j < m → tag j ≡ tag m → ⊥) → doubled tag m ≡ false
unfolding doubled
lone tag m t none = rw (ne_eqb (tag m) 0 t, among_none tag (tag m) m none)

-- one whose tag an earlier entry has doubles that
pub earlier : (tag : ℕ → ℕ) (m j : ℕ) → (tag m ≡ 0 → ⊥) → j < m → tag j ≡ tag m → doubled tag m ≡ true
unfolding doubled
earlier tag m j t l e = rw (ne_eqb (tag m) 0 t, some-among tag (tag m) m j l e)

-- an entry whose DDI has been seen doubles one
pub met : (tag : ℕ → ℕ) (m : ℕ) (seen : List ℕ) (kept x : ℕ) → Seen tag m seen kept → tag m ≡ suc x → Holds seen kept x → doubled tag m ≡ true
met tag m seen kept x s e h =
    let d : (j : ℕ) × (j < m) × (tag j ≡ suc x) = s.some x (h) in
    earlier tag m d.0 (λ (z : tag m ≡ 0). omega (arith, e, z)) d.1 (d.2 ∙ sym e)

-- and one that has not doubles none
pub unmet : (tag : ℕ → ℕ) (m : ℕ) (seen : List ℕ) (kept x : ℕ) → Seen tag m seen kept → tag m ≡ suc x → (Holds seen kept x → ⊥) → doubled tag m ≡ false
unmet tag m seen kept x s e h =
    lone tag m (λ (z : tag m ≡ 0). omega (arith, e, z)) (λ (j : ℕ) (l : j < m) (q : tag j ≡ tag m). h (s.all x j l (q ∙ e)))

-- ---- the list of DDIs seen, after one entry more

pub seen_start : (tag : ℕ → ℕ) (seen : List ℕ) → Seen tag 0 seen 0
seen_start tag seen =
    record {
      some = λ (x : ℕ) (h : Holds seen 0 x). absurd (holds-none h);
      all = λ (x j : ℕ) (l : j < 0) (e : tag j ≡ suc x). absurd (omega arith);
    }

-- nothing new
stays : (tag : ℕ → ℕ) (m : ℕ) (seen : List ℕ) (kept : ℕ) → Seen tag m seen kept → ((x : ℕ) → tag m ≡ suc x → Holds seen kept x) → Seen tag (m + 1) seen kept
stays tag m seen kept s h =
    record {
      some = λ (x : ℕ) (i : Holds seen kept x). let d = s.some x i in (d.0, omega (arith, d.1), d.2);
      all =
          λ (x j : ℕ) (l : j < m + 1) (e : tag j ≡ suc x).
          ⊎_elim (λ (q : j ≡ m). h x (ap tag (sym q) ∙ e)) (λ (q : j < m). s.all x j q e) (eq-or-lt_of_le (omega arith));
    }

pub seen_plain : (tag : ℕ → ℕ) (m : ℕ) (seen : List ℕ) (kept : ℕ) → Seen tag m seen kept → tag m ≡ 0 → Seen tag (m + 1) seen kept
seen_plain tag m seen kept s e = stays tag m seen kept s (λ (x : ℕ) (q : tag m ≡ suc x). absurd (omega (arith, e, q)))

pub seen-met : (tag : ℕ → ℕ) (m : ℕ) (seen : List ℕ) (kept x : ℕ) → Seen tag m seen kept → tag m ≡ suc x → Holds seen kept x → Seen tag (m + 1) seen kept
seen-met tag m seen kept x s e h =
    stays tag m seen kept s
    (λ (y : ℕ) (q : tag m ≡ suc y). record { at = h.at; before = h.before; is = h.is ∙ omega (arith, e, q) })

-- one DDI more
pub seen-new : (tag : ℕ → ℕ) (m : ℕ) (seen : List ℕ) (kept x : ℕ) → kept < length seen → Seen tag m seen kept → tag m ≡ suc x → Seen tag (m + 1) (set seen kept x) (kept + 1)
seen-new tag m seen kept x b s e =
    record {
      some =
          λ (y : ℕ) (h : Holds (set seen kept x) (kept + 1) y).
          ⊎_elim
          (λ (i : Holds (set seen kept x) kept y). let d = s.some y (older i) in (d.0, omega (arith, d.1), d.2))
          (λ (i : get_or (set seen kept x) kept 0 ≡ y). (m, omega arith, e ∙ ap suc (sym (get_or-set_same seen kept x 0 b) ∙ i)))
          (last h);
      all =
          λ (y j : ℕ) (l : j < m + 1) (q : tag j ≡ suc y).
          ⊎_elim
          (λ (w : j ≡ m).
          let same : x ≡ y = omega (arith, e, ap tag (sym w) ∙ q) in
          record { at = kept; before = omega arith; is = get_or-set_same seen kept x 0 b ∙ same })
          (λ (w : j < m). newer (s.all y j w q))
          (eq-or-lt_of_le (omega arith));
    }
  where
    older : {y : ℕ} → Holds (set seen kept x) kept y → Holds seen kept y
    older h =
        record {
          at = h.at;
          before = h.before;
          is = sym (get_or-set_other seen kept h.at x 0 (λ (w : h.at ≡ kept). let c : h.at < kept = h.before in omega arith)) ∙ h.is;
        }

    newer : {y : ℕ} → Holds seen kept y → Holds (set seen kept x) (kept + 1) y
    newer h =
        record {
          at = h.at;
          before = omega (arith, h.before);
          is = get_or-set_other seen kept h.at x 0 (λ (w : h.at ≡ kept). let c : h.at < kept = h.before in omega arith) ∙ h.is;
        }
