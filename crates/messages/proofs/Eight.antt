-- Eight bytes, one by one. Assumes nothing.
use mathlib.Core.Path.{◌≡◌, refl}
use mathlib.Core.List.{List, [], ◌∷◌}
use Prim.Native.Nat.{ℕ}
use native.Mathlib.Omega.{arith}
use lib.ListN.{length}

pub record Eight (s : List ℕ) : Type 0 where
  pub a : ℕ
  pub b : ℕ
  pub c : ℕ
  pub d : ℕ
  pub e : ℕ
  pub f : ℕ
  pub g : ℕ
  pub h : ℕ
  pub are : s ≡ a ∷ b ∷ c ∷ d ∷ e ∷ f ∷ g ∷ h ∷ []

pub eight : (s : List ℕ) → length s ≡ 8 → Eight s
eight [] n = absurd (omega (arith, n))
eight (a ∷ []) n = absurd (omega (arith, n))
eight (a ∷ (b ∷ [])) n = absurd (omega (arith, n))
eight (a ∷ (b ∷ (c ∷ []))) n = absurd (omega (arith, n))
eight (a ∷ (b ∷ (c ∷ (d ∷ [])))) n = absurd (omega (arith, n))
eight (a ∷ (b ∷ (c ∷ (d ∷ (e ∷ []))))) n = absurd (omega (arith, n))
eight (a ∷ (b ∷ (c ∷ (d ∷ (e ∷ (f ∷ [])))))) n = absurd (omega (arith, n))
eight (a ∷ (b ∷ (c ∷ (d ∷ (e ∷ (f ∷ (g ∷ []))))))) n = absurd (omega (arith, n))
eight (a ∷ (b ∷ (c ∷ (d ∷ (e ∷ (f ∷ (g ∷ (h ∷ [])))))))) n = record { a = a; b = b; c = c; d = d; e = e; f = f; g = g; h = h; are = refl }
eight (a ∷ (b ∷ (c ∷ (d ∷ (e ∷ (f ∷ (g ∷ (h ∷ (i ∷ s))))))))) n = absurd (omega (arith, n))
