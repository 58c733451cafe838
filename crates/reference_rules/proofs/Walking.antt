-- Rule 12's walk, entry by entry: the faults reported and the DDIs seen. Assumes nothing.
use mathlib.Core.Path.{◌≡◌, refl, sym, ◌∙◌, subst}
use mathlib.Core.Bool.{Bool, true, false}
use mathlib.Core.List.{List, [], ◌∷◌}
use Prim.Native.Nat.{ℕ, suc, ◌+◌, ◌<◌, ◌≤◌}
use native.Mathlib.Omega.{arith}
use lib.ListN.{length, set, length-set}
use Rattle.faults.specs.Rows.{many, one}
use Rattle.faults.specs.Adding.{Adds}
use Rattle.faults.specs.declared.FaultList.{FaultList}
use Rattle.faults.proofs.Adding.{adds-clear, adds-start, adds-turn}
use Rattle.rules.specs.Table.{doubled}
use Rattle.reference_rules.specs.Lists.{Holds, Seen}
use Rattle.reference_rules.proofs.Seen.{plain, met, unmet, seen_start, seen_plain, seen-met, seen-new}

-- one entry more: it breaks the rule not and adds nothing, or it does and adds its fault
pub adds-silent : {hit : ℕ → Bool} {number : ℕ} {faults₀ faults : FaultList} (m : ℕ) → Adds number (many 12 2 m hit ∷ []) m faults₀ faults
    → hit m ≡ false → Adds number (many 12 2 (m + 1) hit ∷ []) (m + 1) faults₀ faults
adds-silent {hit} {number} {faults₀} {faults} m p e =
    adds-turn m p (subst (λ (t : Bool). Adds number (one 12 (2 + m) t ∷ []) 1 faults faults) (sym e) (adds-clear (λ _ _. refl, tt)))

pub adds-hit : {hit : ℕ → Bool} {number : ℕ} {faults₀ faults faults' : FaultList} (m item : ℕ) → Adds number (many 12 2 m hit ∷ []) m faults₀ faults
    → hit m ≡ true → item ≡ 2 + m → Adds number (one 12 item true ∷ []) 1 faults faults' → Adds number (many 12 2 (m + 1) hit ∷ []) (m + 1) faults₀ faults'
adds-hit {hit} {number} {faults₀} {faults} {faults'} m item p e i q =
    adds-turn m p
    (subst (λ (t : Bool). Adds number (one 12 (2 + m) t ∷ []) 1 faults faults') (sym e)
    (subst (λ (j : ℕ). Adds number (one 12 j true ∷ []) 1 faults faults') i q))

pub record Walking (tag : ℕ → ℕ) (number size : ℕ) (seen₀ : List ℕ) (faults₀ : FaultList) (seen : List ℕ) (faults : FaultList) (kept m : ℕ) : Type 0 where
  pub adds : Adds number (many 12 2 m (doubled tag) ∷ []) m faults₀ faults
  pub within : m ≤ size
  pub held : Seen tag m seen kept
  pub few : kept ≤ m
  pub long : length seen ≡ length seen₀

module _ (tag : ℕ → ℕ) (number size : ℕ) (seen₀ : List ℕ) (faults₀ : FaultList) where
  pub walk_start : Walking tag number size seen₀ faults₀ seen₀ faults₀ 0 0
  walk_start = record { adds = adds-start; within = omega arith; held = seen_start tag seen₀; few = omega arith; long = refl }

  module _ (seen : List ℕ) (faults : FaultList) (kept m : ℕ) (b : m < size) (w : Walking tag number size seen₀ faults₀ seen faults kept m) where
    pub walk-plain : tag m ≡ 0 → Walking tag number size seen₀ faults₀ seen faults kept (m + 1)
    walk-plain e =
        record {
          adds = adds-silent m w.adds (plain tag m e);
          within = omega arith;
          held = seen_plain tag m seen kept w.held e;
          few = omega (arith, w.few);
          long = w.long;
        }

    pub walk-met : (x item : ℕ) (faults' : FaultList) → tag m ≡ suc x → Holds seen kept x → item ≡ 2 + m
        → Adds number (one 12 item true ∷ []) 1 faults faults' → Walking tag number size seen₀ faults₀ seen faults' kept (m + 1)
    walk-met x item faults' e h i p =
        record {
          adds = adds-hit m item w.adds (met tag m seen kept x w.held e h) i p;
          within = omega arith;
          held = seen-met tag m seen kept x w.held e h;
          few = omega (arith, w.few);
          long = w.long;
        }

    pub walk-new : (x : ℕ) → kept < length seen → tag m ≡ suc x → (Holds seen kept x → ⊥)
        → Walking tag number size seen₀ faults₀ (set seen kept x) faults (kept + 1) (m + 1)
    walk-new x r e h =
        record {
          adds = adds-silent m w.adds (unmet tag m seen kept x w.held e h);
          within = omega arith;
          held = seen-new tag m seen kept x r w.held e;
          few = omega (arith, w.few);
          long = length-set seen kept x ∙ w.long;
        }
