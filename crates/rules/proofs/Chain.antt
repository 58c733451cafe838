-- Rule 9: a chain that has not ended after as many steps as there are records never ends. Assumes nothing.
use mathlib.Core.Path.{◌≡◌, refl, sym, ap, ◌∙◌}
use mathlib.Core.Bool.{true, ◌&&◌}
use mathlib.Core.List.{List}
use Prim.Native.Nat.{ℕ, zero, suc, ◌≤◌, ◌<◌}
use native.Mathlib.Omega.{arith}
use borrow.Author.Tests.{eq-eqb, eqb-true}
use lib.Dec.{eqb}
use lib.ListN.{length}
use Rattle.views.specs.Fields.{element_of}
use Rattle.pool.specs.Reading.{Entry}
use Rattle.naming.specs.Records.{start_at, kind_at}
use Rattle.naming.specs.Naming.{named, kind_of, parent_of, climb}
use Rattle.naming.proofs.Climb.{climb-zero, parent-zero, parent-le, ended}
use Rattle.rules.specs.Breach.{Names, Child, Above, here, up, Endless}
use Rattle.rules.proofs.Truth.{both, chosen}
use Rattle.rules.proofs.Names.{named-names, names-named, kind-named}

module _ (p : List ℕ) (es : List Entry) where
  parent-child : (i j : ℕ) → i < length es → parent_of p es (suc i) ≡ suc j → Child p es i j
  unfolding parent_of
  parent-child i j l e =
      let x = (element_of p (start_at es i)).parent in
      let r = named es x in
      let c = chosen (eqb (kind_at es i) 2 && eqb (kind_of es r) 2) r (suc j) (λ (z : suc j ≡ 0). omega arith) e in
      let t = both (eqb (kind_at es i) 2) (eqb (kind_of es r) 2) c.0 in
      let n : Names es x j = named-names es x j c.1 in
      record {
        element = record { there = l; kind = eqb-true (kind_at es i) 2 t.0 };
        names = n;
        parent = record { there = n.there; kind = sym (kind-named es x n) ∙ eqb-true (kind_of es r) 2 t.1 };
      }

  child-parent : (i j : ℕ) → Child p es i j → parent_of p es (suc i) ≡ suc j
  unfolding parent_of
  child-parent i j c =
      let x = (element_of p (start_at es i)).parent in
      let own : eqb (kind_at es i) 2 ≡ true = eq-eqb (kind_at es i) 2 c.element.kind in
      let its : eqb (kind_of es (named es x)) 2 ≡ true = eq-eqb (kind_of es (named es x)) 2 (kind-named es x c.names ∙ c.parent.kind) in
      rw (own, its) (names-named es x c.names)

  above-climb : {n i j : ℕ} → Above p es n i j → climb (parent_of p es) n (suc i) ≡ suc j
  unfolding climb
  above-climb here = refl
  above-climb (up {n = n} {i = i} {j = j} c a) = rw (child-parent i j c) (above-climb a)

  -- the chain from record i has not ended after n steps, and where they lead
  abbrev Lasts : ℕ → ℕ → Type 0
  Lasts n i = climb (parent_of p es) n (suc i) ≡ 0 → ⊥

  abbrev Leads : ℕ → ℕ → Type 0
  Leads n i = (j : ℕ) × Above p es n i j

  climb-above : (n i : ℕ) → i < length es → Lasts n i → Leads n i
  unfolding climb
  climb-above zero i l h = (i, here)
  climb-above (suc n) i l h = go (parent_of p es (suc i)) refl (climb-above n)
    where
      go : (r : ℕ) → parent_of p es (suc i) ≡ r → ((k : ℕ) → k < length es → Lasts n k → Leads n k) → Leads (suc n) i
      go zero e more = absurd (h (ap (climb (parent_of p es) n) e ∙ climb-zero (parent_of p es) n (parent-zero p es)))
      go (suc k) e more =
          let c : Child p es i k = parent-child i k l e in
          let a = more k c.parent.there (λ (z : climb (parent_of p es) n (suc k) ≡ 0). h (ap (climb (parent_of p es) n) e ∙ z)) in
          (a.0, up c a.1)

  -- what has not ended after as many steps as there are records has not ended after any number
  pub climbs-endless : (i : ℕ) → i < length es → (climb (parent_of p es) (length es) (suc i) ≡ 0 → ⊥) → Endless p es i
  climbs-endless i l h n =
      let end = ended (parent_of p es) (length es) (parent-zero p es) (λ (r : ℕ) (b : r ≤ length es). parent-le p es r) (suc i) n l in
      climb-above n i l (λ (z : climb (parent_of p es) n (suc i) ≡ 0). h (end z))

  pub endless-climbs : (i : ℕ) → Endless p es i → climb (parent_of p es) (length es) (suc i) ≡ 0 → ⊥
  endless-climbs i e z = let a = e (length es) in omega (arith, above-climb a.1, z)
