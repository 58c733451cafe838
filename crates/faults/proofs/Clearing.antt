-- Rows without a breach add no fault. Assumes nothing.
use mathlib.Core.Path.{◌≡◌, refl, sym}
use mathlib.Core.Bool.{false}
use mathlib.Core.List.{List, [], ◌∷◌, ◌++◌}
use Prim.Native.Nat.{ℕ, zero, suc, ◌<◌}
use native.Mathlib.Omega.{arith}
use Rattle.faults.specs.Rows.{Row, up_to, faults_of_rows, AllClear}
use Rattle.faults.specs.Emission.{Puts}
use Rattle.faults.proofs.Emission.{emits_none, emits-same}

pub up-to-clear : (n : ℕ) (w : Row) (m : ℕ) → ((j : ℕ) → j < m → w.breach j ≡ false) → up_to n w m ≡ []
unfolding up_to
up-to-clear n w zero h = refl
up-to-clear n w (suc m) h = rw (up-to-clear n w m (λ (j : ℕ) (l : j < m). h j (omega arith)), h m (omega arith))

pub in-clear : (n : ℕ) (ws : List Row) → AllClear ws → faults_of_rows n ws ≡ []
unfolding faults_of_rows
in-clear n [] a = refl
in-clear n (w ∷ ws) a = rw (up-to-clear n w w.size a.0, in-clear n ws a.1)

pub puts-clear : {n : ℕ} {rows : List Row} {b : List ℕ} {k : ℕ} → AllClear rows → Puts n rows b k b k
puts-clear {n} {rows} a = record { emits = emits-same (sym (in-clear n rows a)) emits_none }

pub clear-then : (xs ys : List Row) → AllClear xs → AllClear ys → AllClear (xs ++ ys)
clear-then [] ys a b = b
clear-then (x ∷ xs) ys a b = (a.0, clear-then xs ys a.1 b)
