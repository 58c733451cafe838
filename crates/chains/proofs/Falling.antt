-- Up to the first parent that does not come before its child, every chain ends. Assumes nothing.
use mathlib.Core.Path.{◌≡◌, ap, ◌∙◌}
use mathlib.Core.Bool.{false, not}
use mathlib.Core.List.{List}
use Prim.Native.Nat.{ℕ, zero, suc, ◌+◌, ◌-◌, ◌≤◌, ◌<◌}
use native.Mathlib.Decide.{ℕ_discrete, dec_lt}
use native.Mathlib.Omega.{arith}
use borrow.Author.Tests.{eq-eqb}
use lib.Dec.{eqb}
use lib.ListN.{length}
use Rattle.views.specs.Fields.{element_of}
use Rattle.pool.specs.Reading.{Entry}
use Rattle.naming.specs.Records.{start_at, kind_at}
use Rattle.naming.specs.Naming.{named, kind_of, parent_of, climb}
use Rattle.naming.proofs.Climb.{parent-zero}
use Rattle.naming.proofs.Parents.{parent-none, parent-some, parent-other}
use Rattle.chains.specs.Steps.{Falling}

-- steps that fall come to an end
module _ (f : ℕ → ℕ) (none : f 0 ≡ 0) (k : ℕ) (falls : (r : ℕ) → r < k → (r ≡ 0 → ⊥) → f r < r) where
  falls-ended : (m r : ℕ) → r < k → r ≤ m → climb f m r ≡ 0
  unfolding climb
  falls-ended zero r l h = omega arith
  falls-ended (suc m) r l h = let s = step (ℕ_discrete r 0) in falls-ended m (f r) (omega arith) (omega arith)
    where
      step : Dec (r ≡ 0) → (f r < k) × (f r ≤ m)
      step (yes z) = let e : f r ≡ 0 = ap f z ∙ none in (omega arith, omega arith)
      step (no s) = let d = falls r l s in (omega arith, omega arith)

module _ (p : List ℕ) (es : List Entry) where
  -- the chain of every such record ends
  pub falling-ends : (k r : ℕ) → Falling p es k → r < k → r ≤ length es → climb (parent_of p es) (length es) r ≡ 0
  falling-ends k r h l b = falls-ended (parent_of p es) (parent-zero p es) k h (length es) r l b

  pub falling-endless : (k r : ℕ) → Falling p es k → r < k → r ≤ length es → not (eqb (climb (parent_of p es) (length es) r) 0) ≡ false
  falling-endless k r h l b = rw (eq-eqb (climb (parent_of p es) (length es) r) 0 (falling-ends k r h l b))

  pub falling-start : Falling p es 1
  falling-start r l s = absurd (omega arith)

  pub falling-more : (k up : ℕ) → up ≡ parent_of p es k → up < k → Falling p es k → Falling p es (k + 1)
  falling-more k up is d h r l s = go (dec_lt r k)
    where
      go : Dec (r < k) → parent_of p es r < r
      go (yes b) = h r b s
      go (no b) = let e : r ≡ k = omega arith in rw (e, ← is) d

  -- one record more: record i is no device element; its parent is none; its parent is a device element before it
  module _ (i : ℕ) (h : Falling p es (suc i)) where
    pub falling-other : (kind_at es i ≡ 2 → ⊥) → Falling p es (suc i + 1)
    falling-other k = falling-more (suc i) 0 (parent-none p es (suc i) k) (omega arith) h

    module _ (r : ℕ) (own : kind_at es i ≡ 2) (names : r ≡ named es (element_of p (start_at es i)).parent) where
      before : r ≡ named es (element_of p (start_at es (suc i - 1))).parent
      before = let e : suc i - 1 ≡ i = omega arith in rw e names

      pub falling-out : (kind_of es r ≡ 2 → ⊥) → Falling p es (suc i + 1)
      falling-out k = falling-more (suc i) 0 (parent-other p es (suc i) r own before k) (omega arith) h

      pub falling-on : kind_of es r ≡ 2 → r ≤ i → Falling p es (suc i + 1)
      falling-on k l = falling-more (suc i) r (parent-some p es (suc i) r own before k) (omega arith) h
