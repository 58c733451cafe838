-- The logic's rounding gives the nearest multiple of a unit. Assumes nothing.
use mathlib.Core.Path.{◌≡◌, subst}
use mathlib.Core.Logic.{⊎_elim}
use mathlib.Core.Bool.{not}
use Prim.Native.Nat.{ℕ, suc, ◌+◌, ◌*◌, ◌/◌, ◌%◌, ◌≤◌, ◌<◌, compare, Ordering}
use native.Mathlib.Nat.{mod-lt, div-add-mod', suc-mul, eq-zero-or-pos}
use native.Mathlib.Omega.{arith}
use lib.Arith.{lt_of_le-ne}
use lib.Dec.{T, is_le, compare_is_eq, eqb, leb→le, nleb→lt, eqb→eq, eqb_refl}
use lib.Ieee.{nearest}
use lib.Ieee.Nearest.{closest}
use Rattle.presentation.specs.Rounding.{NearestMultiple}

-- n is d units and a rest r: by how twice r compares with the unit
module _ (n u d r : ℕ) (is : d * u + r ≡ n) where
  under : r * 2 < u → NearestMultiple n u d
  under h =
      record {
        low = omega arith;
        high = omega arith;
        even = ⊎_elim (λ (t : 2 * (d * u) ≡ 2 * n + u). omega arith) (λ (t : 2 * n ≡ 2 * (d * u) + u). omega arith);
      }

  over : r < u → u < r * 2 → NearestMultiple n u (suc d)
  over l h =
      let e : suc d * u ≡ d * u + u = suc-mul d u in
      record {
        low = omega (arith, e);
        high = omega (arith, e);
        even = ⊎_elim (λ (t : 2 * (suc d * u) ≡ 2 * n + u). omega (arith, e)) (λ (t : 2 * n ≡ 2 * (suc d * u) + u). omega (arith, e));
      }

  tie_down : r * 2 ≡ u → d % 2 ≡ 0 → NearestMultiple n u d
  tie_down h z = record { low = omega arith; high = omega arith; even = λ t. z }

  tie_up : r * 2 ≡ u → 0 < d % 2 → NearestMultiple n u (suc d)
  tie_up h z =
      let e : suc d * u ≡ d * u + u = suc-mul d u in
      record { low = omega (arith, e); high = omega (arith, e); even = λ t. omega arith }

  tie : r * 2 ≡ u → NearestMultiple n u (d + d % 2)
  tie h =
      ⊎_elim
      (λ (z : d % 2 ≡ 0). let e : d ≡ d + d % 2 = omega arith in subst (NearestMultiple n u) e (tie_down h z))
      (λ (z : 0 < d % 2). let e : suc d ≡ d + d % 2 = omega arith in subst (NearestMultiple n u) e (tie_up h z))
      (eq-zero-or-pos (d % 2))

pub nearest-multiple : (n u : ℕ) → 0 < u → NearestMultiple n u (closest n u)
nearest-multiple n u U =
    by_order (compare (n % u * 2) u) (leb→le (n % u * 2) u) (nleb→lt (n % u * 2) u) (eqb→eq (n % u * 2) u)
    (λ (e : n % u * 2 ≡ u). subst (λ (x : ℕ). T (eqb (n % u * 2) x)) e (eqb_refl (n % u * 2)))
  where
    by_order : (o : Ordering) → (T (is_le o) → n % u * 2 ≤ u) → (T (not (is_le o)) → u < n % u * 2) → (T (compare_is_eq o) → n % u * 2 ≡ u)
        → (n % u * 2 ≡ u → T (compare_is_eq o))
        → NearestMultiple n u (nearest (n / u) o)
    by_order Ordering.lt le gt eq ne = under n u (n / u) (n % u) (div-add-mod' n u) (lt_of_le-ne (le tt) ne)
    by_order Ordering.eq le gt eq ne = tie n u (n / u) (n % u) (div-add-mod' n u) (eq tt)
    by_order Ordering.gt le gt eq ne = over n u (n / u) (n % u) (div-add-mod' n u) (mod-lt n U) (gt tt)
