-- Faults added to a list, rows behind rows. Assumes nothing.
use mathlib.Core.Path.{refl, ◌∙◌}
use mathlib.Core.Bool.{Bool}
use mathlib.Core.List.{List, [], ◌∷◌, ◌++◌}
use Prim.Native.Nat.{ℕ, ◌+◌, ◌≤◌}
use native.Mathlib.Omega.{arith}
use Rattle.faults.specs.Rows.{Row, one, many, AllClear}
use Rattle.faults.specs.Adding.{Adds}
use Rattle.faults.specs.declared.FaultList.{FaultList}
use Rattle.faults.proofs.Emission.{puts_then, puts_none, puts-start, puts-turn}
use Rattle.faults.proofs.Clearing.{puts-clear}

-- one group of rows behind another
pub adds_then : {n : ℕ} {xs ys : List Row} {a b : ℕ} {l m r : FaultList} → Adds n xs a l m → Adds n ys b m r → Adds n (xs ++ ys) (a + b) l r
adds_then p q = record { same = q.same ∙ p.same; puts = puts_then p.puts q.puts; few = omega (arith, p.few, q.few) }

-- a wider limit
pub adds-within : {n : ℕ} {rows : List Row} {a : ℕ} {l m : FaultList} (b : ℕ) → Adds n rows a l m → a ≤ b → Adds n rows b l m
adds-within b p h = record { same = p.same; puts = p.puts; few = omega (arith, h, p.few) }

pub adds_none : {n : ℕ} {l : FaultList} → Adds n [] 0 l l
adds_none = record { same = refl; puts = puts_none; few = omega arith }

pub adds-clear : {n : ℕ} {rows : List Row} {a : ℕ} {l : FaultList} → AllClear rows → Adds n rows a l l
adds-clear clear = record { same = refl; puts = puts-clear clear; few = omega arith }

-- a row of many items, item by item
pub adds-start : {n u k : ℕ} {t : ℕ → Bool} {l : FaultList} → Adds n (many u k 0 t ∷ []) 0 l l
adds-start = record { same = refl; puts = puts-start; few = omega arith }

pub adds-turn : {n u k : ℕ} {t : ℕ → Bool} {l r s : FaultList} (m : ℕ) → Adds n (many u k m t ∷ []) m l r
    → Adds n (one u (k + m) (t m) ∷ []) 1 r s → Adds n (many u k (m + 1) t ∷ []) (m + 1) l s
adds-turn m p q = record { same = q.same ∙ p.same; puts = puts-turn m p.puts q.puts; few = omega (arith, p.few, q.few) }
