-- Blank lists. Assumes nothing.
use mathlib.Core.Path.{refl}
use mathlib.Core.List.{List, [], ◌∷◌}
use Prim.Native.Nat.{ℕ, zero, suc, ◌≤◌}
use native.Mathlib.Omega.{arith}
use lib.ListN.{length, replicate, length-replicate, take}
use Rattle.naming.specs.Lists.{Blank}

pub blank : (n : ℕ) → Blank (replicate n 0)
blank zero zero = refl
blank zero (suc x) = refl
blank (suc n) zero = refl
blank (suc n) (suc x) = blank n x

pub long : (n m : ℕ) → m ≤ n → m ≤ length {A = ℕ} (replicate n 0)
long n m h = omega (arith, length-replicate {A = ℕ} n 0)

-- the first items of a blank list
pub blank_take : (n : ℕ) (l : List ℕ) → Blank l → Blank (take n l)
blank_take zero l b x = refl
blank_take (suc n) [] b x = refl
blank_take (suc n) (y ∷ ys) b zero = b zero
blank_take (suc n) (y ∷ ys) b (suc x) = blank_take n ys (λ (k : ℕ). b (suc k)) x
