-- The first place at which a test passes, and the first record with a key. Assumes nothing.
use mathlib.Core.Path.{◌≡◌, refl, sym, ap, ◌∙◌}
use mathlib.Core.Bool.{Bool, true, false, true≢false, cond, not, ◌||◌}
use mathlib.Core.List.{List, [], ◌∷◌}
use Prim.Native.Nat.{ℕ, zero, suc, ◌+◌, ◌≤◌, ◌<◌}
use native.Mathlib.Numerals.{add-one}
use native.Mathlib.Omega.{arith}
use borrow.Author.Tests.{eq-eqb, ne_eqb, eqb-true, ltb-false}
use lib.Dec.{eqb, ltb}
use lib.ListN.{length, get_or, take}
use lib.Seq.{get_or-take, length-take-le}
use Rattle.std.specs.declared.option.Option.TheVariants.{Some, None}
use Rattle.std.specs.List.{position, position_or_len, prefix_len, list_any}
use Rattle.std.proofs.lemmas.List.Quantifiers.{position-Some}
use Rattle.std.proofs.lemmas.List.Folds.{list_any_more}
use Rattle.naming.specs.Naming.{or_else, first_of}
use Rattle.naming.proofs.First.{Without}

-- what stands before the end of a prefix passes
in_prefix : (q : ℕ → Bool) (xs : List ℕ) (i : ℕ) → i < prefix_len q xs → q (get_or xs i 0) ≡ true
in_prefix q [] i l = absurd (omega arith)
in_prefix q (x ∷ xs) i l = go (q x) refl (in_prefix q xs) i l
  where
    go : (b : Bool) → q x ≡ b → ((k : ℕ) → k < prefix_len q xs → q (get_or xs k 0) ≡ true) → (k : ℕ) → k < cond b (1 + prefix_len q xs) 0 → q (get_or (x ∷ xs) k 0) ≡ true
    go false e on k h = absurd (omega arith)
    go true e on zero h = e
    go true e on (suc k) h = on k (omega arith)

-- no place passes if there is no first one
none-passes : (test : ℕ → Bool) (xs : List ℕ) → position test xs ≡ None → (i : ℕ) → i < length xs → test (get_or xs i 0) ≡ false
none-passes test xs e i l = go (ltb (position_or_len test xs) (length xs)) refl
  where
    shut : (b : Bool) → not b ≡ true → b ≡ false
    shut false h = refl
    shut true h = absurd (true≢false (sym h))

    go : (b : Bool) → ltb (position_or_len test xs) (length xs) ≡ b → test (get_or xs i 0) ≡ false
    go true h = let bad : ◌≡◌ (Some (position_or_len test xs)) None = rw h at e in cc
    go false h = shut (test (get_or xs i 0)) (in_prefix (λ x. not (test x)) xs i (omega (arith, ltb-false _ _ h)))

-- the places are the first n of a list, and the test at place i says whether record i has the key x
module _ (test : ℕ → Bool) (l : List ℕ) (key : ℕ → ℕ) (x n : ℕ) (room : n ≤ length l) (same : (i : ℕ) → i < n → test (get_or l i 0) ≡ eqb (key i) x) where
  taken : (i : ℕ) → i < n → test (get_or (take n l) i 0) ≡ eqb (key i) x
  taken i b = ap test (get_or-take n l i 0 b) ∙ same i b

  pub placed-some : (i : ℕ) → position test (take n l) ≡ Some i → (i < n) × (key i ≡ x) × Without key x i
  placed-some i e =
      let s = position-Some test (take n l) i 0 e in
      let inside : i < n = omega (arith, s.0, length-take-le n l room) in
      (inside, eqb-true (key i) x (sym (taken i inside) ∙ s.1), λ (j : ℕ) (b : j < i) (q : key j ≡ x). true≢false (sym (eq-eqb (key j) x q) ∙ sym (taken j (omega arith)) ∙ s.2 j b))

  pub placed-none : position test (take n l) ≡ None → Without key x n
  placed-none e j b q =
      true≢false (sym (eq-eqb (key j) x q) ∙ sym (taken j b) ∙ none-passes test (take n l) e j (omega (arith, length-take-le n l room)))

-- whether one of the first n passes, by the first record with the key
pub any-first : (test : ℕ → Bool) (l : List ℕ) (key : ℕ → ℕ) (x n : ℕ) → n ≤ length l → ((i : ℕ) → i < n → test (get_or l i 0) ≡ eqb (key i) x)
    → list_any test (take n l) ≡ not (eqb (first_of key x n) 0)
unfolding first_of
any-first test l key x zero room same = refl
any-first test l key x (suc n) room same =
    let before : list_any test (take n l) ≡ not (eqb (first_of key x n) 0) = any-first test l key x n (omega arith) (λ (i : ℕ) (b : i < n). same i (omega arith)) in
    let step : list_any test (take (n + 1) l) ≡ list_any test (take n l) || test (get_or l n 0) = list_any_more test l n 0 (omega arith) in
    rw (add-one n) at step ∙ rw (before, same n (omega arith)) (joined (first_of key x n) (eqb (key n) x))
  where
    joined : (a : ℕ) (b : Bool) → not (eqb a 0) || b ≡ not (eqb (or_else a (cond b (suc n) 0)) 0)
    joined zero true = sym (ap not (ne_eqb (suc n) 0 (λ (z : suc n ≡ 0). omega arith)))
    joined zero false = refl
    joined (suc a) b = rw (ne_eqb (suc a) 0 (λ (z : suc a ≡ 0). omega arith))
