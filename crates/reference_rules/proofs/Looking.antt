-- The walk over the entries for rule 6: what it has found about the kinds that they name. Assumes nothing.
use mathlib.Core.Path.{◌≡◌, refl, sym, ◌∙◌}
use mathlib.Core.Bool.{Bool, true, false, not, ◌&&◌, ◌||◌}
use mathlib.Core.Logic.{⊎_elim}
use Prim.Native.Nat.{ℕ, ◌+◌, ◌<◌}
use native.Mathlib.Nat.{eq-or-lt_of_le}
use native.Mathlib.Decide.{ℕ_discrete}
use native.Mathlib.Omega.{arith}
use lib.Dec.{eqb}
use Rattle.wire.proofs.Either.{neither}
use Rattle.rules.specs.Table.{is_wrong_kind, doubled}
use Rattle.reference_rules.proofs.Seen.{plain, lone}

-- what the first m entries name: whether one is of a wrong kind, and how many have a tag
pub record Looking (entry : ℕ → ℕ) (right : ℕ → Bool) (tag : ℕ → ℕ) (m : ℕ) (wrong : Bool) (tagged : ℕ) : Type 0 where
  pub clean : wrong ≡ false → (j : ℕ) → j < m → is_wrong_kind (right j) (entry j) ≡ false
  pub none : tagged ≡ 0 → (j : ℕ) → j < m → tag j ≡ 0
  pub few : tagged < 2 → (j : ℕ) → j < m → doubled tag j ≡ false

-- what holds of each entry before, and of this one, holds of each before the next
more : {P : ℕ → Type 0} {m : ℕ} → ((j : ℕ) → j < m → P j) → P m → (j : ℕ) → j < m + 1 → P j
more {P} {m} before here j l = ⊎_elim (λ (e : j ≡ m). rw e here) (λ (b : j < m). before j b) (eq-or-lt_of_le (omega arith))

module _ (entry : ℕ → ℕ) (right : ℕ → Bool) (tag : ℕ → ℕ) where
  pub look-start : Looking entry right tag 0 false 0
  look-start =
      record {
        clean = λ e (j : ℕ) (l : j < 0). absurd (omega arith);
        none = λ e (j : ℕ) (l : j < 0). absurd (omega arith);
        few = λ e (j : ℕ) (l : j < 0). absurd (omega arith);
      }

  module _ (m : ℕ) (wrong : Bool) (tagged : ℕ) (looked : Looking entry right tag m wrong tagged) where
    -- the entry names process data or a property: where it is the first to do so, it doubles none
    pub look-data : right m ≡ true → Looking entry right tag (m + 1) wrong (tagged + 1)
    look-data r =
        record {
          clean = λ (e : wrong ≡ false). more {P = λ (j : ℕ). is_wrong_kind (right j) (entry j) ≡ false} (looked.clean e) (rw r (away (not (eqb (entry m) 0))));
          none = λ (e : tagged + 1 ≡ 0). absurd (omega arith);
          few = λ (e : tagged + 1 < 2). more {P = λ (j : ℕ). doubled tag j ≡ false} (looked.few (omega arith)) (first (looked.none (omega arith)) (ℕ_discrete (tag m) 0));
        }
      where
        away : (b : Bool) → b && false ≡ false
        away true = refl
        away false = refl

        first : ((j : ℕ) → j < m → tag j ≡ 0) → Dec (tag m ≡ 0) → doubled tag m ≡ false
        first z (yes e) = plain tag m e
        first z (no d) = lone tag m d (λ (j : ℕ) (l : j < m) (q : tag j ≡ tag m). d (sym q ∙ z j l))

    -- it names another record, or none
    pub look-other : right m ≡ false → tag m ≡ 0 → Looking entry right tag (m + 1) (wrong || not (eqb (entry m) 0)) tagged
    look-other r t =
        record {
          clean =
              λ (e : wrong || not (eqb (entry m) 0) ≡ false).
              let b = neither wrong (not (eqb (entry m) 0)) e in
              more {P = λ (j : ℕ). is_wrong_kind (right j) (entry j) ≡ false} (looked.clean b.0) (rw b.1);
          none = λ (e : tagged ≡ 0). more {P = λ (j : ℕ). tag j ≡ 0} (looked.none e) t;
          few = λ (e : tagged < 2). more {P = λ (j : ℕ). doubled tag j ≡ false} (looked.few e) (plain tag m t);
        }
