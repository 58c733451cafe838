-- Searching for the first record with a property. Assumes nothing.
use mathlib.Core.Path.{◌≡◌, sym, ap, ◌∙◌}
use mathlib.Core.Bool.{false}
use mathlib.Core.Logic.{⊎_elim}
use Prim.Native.Nat.{ℕ, suc, ◌+◌, ◌<◌}
use native.Mathlib.Nat.{eq-or-lt_of_le}
use native.Mathlib.Omega.{arith}
use borrow.Author.Tests.{ne_eqb}
use lib.Dec.{eqb}
use Rattle.naming.specs.Naming.{first_of}
use Rattle.naming.proofs.First.{Without, to-first}

pub none_yet : (key : ℕ → ℕ) (x : ℕ) → Without key x 0
none_yet key x j h e = absurd (omega arith)

pub none_more : (key : ℕ → ℕ) (x i : ℕ) → Without key x i → (key i ≡ x → ⊥) → Without key x (i + 1)
none_more key x i w d j h e = ⊎_elim (λ (s : j ≡ i). d (ap key (sym s) ∙ e)) (λ (s : j < i). w j s e) (eq-or-lt_of_le (omega arith))

-- the first is found
pub first_found : (key : ℕ → ℕ) (x n i : ℕ) → i < n → Without key x i → key i ≡ x → i + 1 ≡ first_of key x n
first_found key x n i h w e = omega (arith, to-first key x n i h e w)

pub first-there : (key : ℕ → ℕ) (x n i : ℕ) → i < n → Without key x i → key i ≡ x → false ≡ eqb (first_of key x n) 0
first-there key x n i h w e = sym (rw (to-first key x n i h e w) (ne_eqb (suc i) 0 (λ (z : suc i ≡ 0). omega arith)))
