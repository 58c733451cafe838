-- There is no mark where fewer than three bytes are left. Assumes nothing.
use mathlib.Core.Path.{◌≡◌, refl, ap, subst}
use mathlib.Core.Bool.{Bool, true, false, ◌&&◌, ◌||◌}
use mathlib.Core.List.{List, [], ◌∷◌}
use Prim.Native.Nat.{ℕ, ◌+◌, ◌*◌, ◌/◌, ◌%◌, ◌≤◌, ◌<◌}
use native.Mathlib.Decide.{ℕ_discrete, dec_lt}
use native.Mathlib.Omega.{arith}
use borrow.Author.Tests.{ne_eqb}
use lib.Dec.{eqb}
use lib.ListN.{length, get_or, get_or-eq_default}
use Rattle.std.specs.Prelude.{Some, None}
use Rattle.records.specs.Layout.{mark_code, mark, mark_of, three}
use Rattle.records.specs.declared.Kind.TheVariants.{Dvc, Det, Dpd, Dpt, Dvp}

-- past the end is 0, which is in no mark
unmarked : (a b : ℕ) → mark_of (a ∷ b ∷ 0 ∷ []) ≡ None
unfolding mark_of mark
unmarked a b = rw (never (eqb a 68) (eqb b 86), never (eqb a 68) (eqb b 69), never (eqb a 68) (eqb b 80))
  where
    never : (x y : Bool) → x && (y && false) ≡ false
    never true true = refl
    never true false = refl
    never false y = refl

pub mark-short : (p : List ℕ) (at : ℕ) → length p < at + 3 → mark_of (three p at) ≡ None
mark-short p at h =
    let z : get_or p (at + 2) 0 ≡ 0 = get_or-eq_default p 0 (omega arith) in
    rw z (unmarked (get_or p at 0) (get_or p (at + 1) 0))

-- a mark takes three bytes
pub mark-within : (p : List ℕ) (at : ℕ) → (mark_code (mark_of (three p at)) ≡ 0 → ⊥) → at + 3 ≤ length p
mark-within p at h = go (dec_lt (length p) (at + 3))
  where
    go : Dec (length p < at + 3) → at + 3 ≤ length p
    go (yes l) = absurd (h (ap mark_code (mark-short p at l)))
    go (no l) = omega arith

-- what a mark is whose first letter is that of all
abbrev Marked : ℕ → ℕ → ℕ → Type 0
Marked a b c = mark_code (mark_of (a ∷ b ∷ c ∷ [])) ≡ 0 → ⊥

first-letter : (a b c : ℕ) → Marked a b c → a ≡ 68
unfolding mark_of mark
first-letter a b c h = go (ℕ_discrete a 68)
  where
    go : Dec (a ≡ 68) → a ≡ 68
    go (yes e) = e
    go (no n) = absurd (h (rw (ne_eqb a 68 n)))

module _ (c : ℕ) where
  data-third : Marked 68 80 c → (c ≡ 68 → ⊥) → c ≡ 84
  unfolding mark_of mark
  data-third h d = go (ℕ_discrete c 84)
    where
      go : Dec (c ≡ 84) → c ≡ 84
      go (yes e) = e
      go (no n) = absurd (h (rw (ne_eqb c 68 d, ne_eqb c 84 n)))

  element-third : Marked 68 69 c → c ≡ 84
  unfolding mark_of mark
  element-third h = go (ℕ_discrete c 84)
    where
      go : Dec (c ≡ 84) → c ≡ 84
      go (yes e) = e
      go (no n) = absurd (h (rw (ne_eqb c 84 n)))

  device-third : Marked 68 86 c → (c ≡ 80 → ⊥) → c ≡ 67
  unfolding mark_of mark
  device-third h d = go (ℕ_discrete c 67)
    where
      go : Dec (c ≡ 67) → c ≡ 67
      go (yes e) = e
      go (no n) = absurd (h (rw (ne_eqb c 67 n, ne_eqb c 80 d)))

second-letter : (b c : ℕ) → Marked 68 b c → (b ≡ 80 → ⊥) → (b ≡ 69 → ⊥) → b ≡ 86
unfolding mark_of mark
second-letter b c h p e = go (ℕ_discrete b 86)
  where
    go : Dec (b ≡ 86) → b ≡ 86
    go (yes q) = q
    go (no n) = absurd (h (rw (ne_eqb b 86 n, ne_eqb b 69 e, ne_eqb b 80 p)))

-- the kind by the second and third letter of a mark
module _ (a b c : ℕ) (h : Marked a b c) where
  first : a ≡ 68
  first = first-letter a b c h

  -- process data has a D behind the P, a property a T
  module _ (p : b ≡ 80) where
    pub kind-process-data : c ≡ 68 → mark_of (a ∷ b ∷ c ∷ []) ≡ Some Dpd
    unfolding mark_of mark
    kind-process-data e = rw (first, p, e)

    pub kind-property : (c ≡ 68 → ⊥) → mark_of (a ∷ b ∷ c ∷ []) ≡ Some Dpt
    unfolding mark_of mark
    kind-property d = rw (first, p, data-third c (subst (λ (x : ℕ). Marked 68 x c) p (subst (λ (x : ℕ). Marked x b c) first h)) d)

  pub kind-element : b ≡ 69 → mark_of (a ∷ b ∷ c ∷ []) ≡ Some Det
  unfolding mark_of mark
  kind-element p =
      let t : c ≡ 84 = element-third c (subst (λ (x : ℕ). Marked 68 x c) p (subst (λ (x : ℕ). Marked x b c) first h)) in
      rw (first, p, t)

  module _ (p : b ≡ 80 → ⊥) (e : b ≡ 69 → ⊥) where
    second : b ≡ 86
    second = second-letter b c (subst (λ (x : ℕ). Marked x b c) first h) p e

    pub kind-presentation : c ≡ 80 → mark_of (a ∷ b ∷ c ∷ []) ≡ Some Dvp
    unfolding mark_of mark
    kind-presentation t = rw (first, second, t)

    pub kind-device : (c ≡ 80 → ⊥) → mark_of (a ∷ b ∷ c ∷ []) ≡ Some Dvc
    unfolding mark_of mark
    kind-device d =
        let t : c ≡ 67 = device-third c (subst (λ (x : ℕ). Marked 68 x c) second (subst (λ (x : ℕ). Marked x b c) first h)) d in
        rw (first, second, t)

  of-second : (x : ℕ) → b ≡ x → Marked 68 x c
  of-second x q = subst (λ (y : ℕ). Marked 68 y c) q (subst (λ (y : ℕ). Marked y b c) first h)

  -- what holds of the five marks holds of this one
  pub by-mark : (X : ℕ → ℕ → ℕ → Type 0) → X 68 80 68 → X 68 80 84 → X 68 69 84 → X 68 86 80 → X 68 86 67 → X a b c
  by-mark X dpd dpt det dvp dvc = by-second (ℕ_discrete b 80) (ℕ_discrete b 69)
    where
      data_of : b ≡ 80 → Dec (c ≡ 68) → X a b c
      data_of p (yes e) = rw (first, p, e) dpd
      data_of p (no d) = rw (first, p, data-third c (of-second 80 p) d) dpt

      device-of : b ≡ 86 → Dec (c ≡ 80) → X a b c
      device-of p (yes e) = rw (first, p, e) dvp
      device-of p (no d) = rw (first, p, device-third c (of-second 86 p) d) dvc

      by-second : Dec (b ≡ 80) → Dec (b ≡ 69) → X a b c
      by-second (yes p) e = data_of p (ℕ_discrete c 68)
      by-second (no n) (yes p) = rw (first, p, element-third c (of-second 69 p)) det
      by-second (no n) (no m) = device-of (second-letter b c (subst (λ (y : ℕ). Marked y b c) first h) n m) (ℕ_discrete c 80)

  -- the two letters as a number, times 6663, have the kind in bits 15 to 17
  pub kind-product : (b + 256 * c) * 6663 / 32768 % 8 ≡ mark_code (mark_of (a ∷ b ∷ c ∷ []))
  unfolding mark_of mark
  kind-product = by-mark (λ x y z. (y + 256 * z) * 6663 / 32768 % 8 ≡ mark_code (mark_of (x ∷ y ∷ z ∷ []))) refl refl refl refl refl

  -- a P is the second letter of process data and properties alone
  pub data-letter : eqb b 80 ≡ (eqb (mark_code (mark_of (a ∷ b ∷ c ∷ []))) 3 || eqb (mark_code (mark_of (a ∷ b ∷ c ∷ []))) 4)
  unfolding mark_of mark
  data-letter = by-mark (λ x y z. eqb y 80 ≡ (eqb (mark_code (mark_of (x ∷ y ∷ z ∷ []))) 3 || eqb (mark_code (mark_of (x ∷ y ∷ z ∷ []))) 4)) refl refl refl refl refl
