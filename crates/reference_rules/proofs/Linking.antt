-- Rule 12's walk along links, entry by entry: the faults reported, and the lists. Assumes nothing.
use mathlib.Core.Path.{◌≡◌, refl, sym, ap, ◌∙◌}
use mathlib.Core.Bool.{true}
use mathlib.Core.List.{List, [], ◌∷◌}
use Prim.Native.Nat.{ℕ, suc, ◌+◌, ◌≤◌, ◌<◌, ◌%◌}
use native.Mathlib.Numerals.{add-one}
use native.Mathlib.Omega.{arith}
use lib.ListN.{length, get_or, set, length-set}
use Rattle.faults.specs.Rows.{many, one}
use Rattle.faults.specs.Adding.{Adds}
use Rattle.faults.specs.declared.FaultList.{FaultList}
use Rattle.faults.proofs.Adding.{adds-start}
use Rattle.naming.specs.Lists.{Blank}
use Rattle.naming.proofs.First.{Without}
use Rattle.rules.specs.Table.{doubled}
use Rattle.reference_rules.proofs.Seen.{plain, lone, earlier}
use Rattle.reference_rules.proofs.Walking.{adds-silent, adds-hit}
use Rattle.reference_rules.proofs.Linked.{tags, Linked, Walks, standing, linked-start, linked-plain, linked-again, linked-marked, linked-new}

pub record Linking (entry mark : ℕ → ℕ) (h number size : ℕ) (links₀ : List ℕ) (faults₀ : FaultList) (tops links : List ℕ) (faults : FaultList) (m : ℕ) : Type 0 where
  pub adds : Adds number (many 12 2 m (doubled (tags entry mark)) ∷ []) m faults₀ faults
  pub within : m ≤ size
  pub linked : Linked entry mark h m tops links
  pub room : length links ≡ length links₀

module _ (entry mark : ℕ → ℕ) (nothing : mark 0 ≡ 0) (h number size : ℕ) (links₀ : List ℕ) (faults₀ : FaultList) where
  pub link_start : (tops : List ℕ) → 0 < h → length tops ≡ h → Blank tops → Blank links₀ → Linking entry mark h number size links₀ faults₀ tops links₀ faults₀ 0
  link_start tops some wide blank new =
      record {
        adds = adds-start;
        within = omega arith;
        linked = linked-start entry mark h tops links₀ some wide blank new;
        room = refl;
      }

  module _ (tops links : List ℕ) (faults : FaultList) (m : ℕ) (b : m < size) (w : Linking entry mark h number size links₀ faults₀ tops links faults m) where
    pub link-plain : tags entry mark m ≡ 0 → Linking entry mark h number size links₀ faults₀ tops links faults (m + 1)
    link-plain e =
        record {
          adds = adds-silent m w.adds (plain (tags entry mark) m e);
          within = omega arith;
          linked = rw (add-one m) (linked-plain entry mark h m tops links w.linked e);
          room = w.room;
        }

    module _ (x : ℕ) (e : tags entry mark m ≡ x) (t : x ≡ 0 → ⊥) where
      has : tags entry mark m ≡ 0 → ⊥
      has z = t (sym e ∙ z)

      -- an earlier entry has its tag
      hit : (j : ℕ) → j < m → tags entry mark j ≡ x → (links' : List ℕ) → Linked entry mark h (suc m) tops links' → length links' ≡ length links
          → (item : ℕ) (faults' : FaultList) → item ≡ 2 + m → Adds number (one 12 item true ∷ []) 1 faults faults'
          → Linking entry mark h number size links₀ faults₀ tops links' faults' (m + 1)
      hit j l same links' linked wide item faults' i adds =
          record {
            adds = adds-hit m item w.adds (earlier (tags entry mark) m j has l (same ∙ sym e)) i adds;
            within = omega arith;
            linked = rw (add-one m) linked;
            room = wide ∙ w.room;
          }

      module _ (r : ℕ) (is : r ≡ entry m) where
        -- the record has a link
        pub link-known : (get_or links r 0 ≡ 0 → ⊥) → (item : ℕ) (faults' : FaultList) → item ≡ 2 + m → Adds number (one 12 item true ∷ []) 1 faults faults'
            → Linking entry mark h number size links₀ faults₀ tops links faults' (m + 1)
        link-known known =
            let d = w.linked.met r known in
            let same : tags entry mark d.0 ≡ x = ap mark (d.2 ∙ is) ∙ e in
            hit d.0 d.1 same links (linked-again entry mark h m tops links w.linked x d.0 d.1 same e) refl

        -- it has none, and the walk stands at a record that an earlier entry names
        pub link-met : get_or links r 0 ≡ 0 → (k v item : ℕ) (faults' : FaultList) → (k ≡ 0 → ⊥) → Walks entry mark h m x k → mark k ≡ x → item ≡ 2 + m
            → Adds number (one 12 item true ∷ []) 1 faults faults'
            → Linking entry mark h number size links₀ faults₀ tops (set links r v) faults' (m + 1)
        link-met unmet k v item faults' s stands q =
            let d = standing entry mark nothing m h x k s stands in
            let l : d.0 < m = omega (arith, stands.inside, d.1) in
            let same : tags entry mark d.0 ≡ x = sym (ap mark d.2) ∙ q in
            hit d.0 l same (set links r v) (rw is (linked-marked entry mark h m tops links w.linked x d.0 l same e v (rw (← is) unmet))) (length-set links r v) item faults'

        -- no earlier entry has the tag
        pub link-new : Without (tags entry mark) x m → r < length links₀
            → Linking entry mark h number size links₀ faults₀ (set tops (x % h) r) (set links r (1 + get_or tops (x % h) 0)) faults (m + 1)
        link-new none inside =
            record {
              adds = adds-silent m w.adds (lone (tags entry mark) m has (λ (j : ℕ) (l : j < m) (q : tags entry mark j ≡ tags entry mark m). none j l (q ∙ e)));
              within = omega arith;
              linked = rw (add-one m, is) (linked-new entry mark h m tops links w.linked x e t none (omega (arith, inside, is, w.room)));
              room = length-set links r (1 + get_or tops (x % h) 0) ∙ w.room;
            }
