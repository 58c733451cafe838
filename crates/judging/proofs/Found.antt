-- What a search among the records of a pool finds. Assumes nothing.
use mathlib.Core.Path.{◌≡◌, refl, sym, ap, subst, ◌∙◌}
use mathlib.Core.Bool.{Bool, true, false, cond}
use mathlib.Core.List.{List}
use Prim.Native.Nat.{ℕ, zero, suc, ◌-◌, ◌≤◌, ◌<◌}
use native.Mathlib.Omega.{arith}
use borrow.Author.Tests.{eq-eqb, eqb-true, eqb-false}
use lib.Dec.{eqb}
use lib.ListN.{length, get_or, take}
use lib.Seq.{get_or-take, length-take-le}
use Rattle.std.specs.Prelude.{Option, None, Some}
use Rattle.std.specs.List.{AllWithin, HoldsAt}
use Rattle.std.specs.Option.{MatchOption}
use Rattle.records.specs.Layout.{mark_code, mark_of, three}
use Rattle.views.specs.Fields.{element_of, entry_of}
use Rattle.pool.specs.Reading.{Entry}
use Rattle.pool.specs.Walk.{entries_of}
use Rattle.pool.proofs.Starts.{entries-long}
use Rattle.naming.specs.Naming.{element_key, named, tag_of}
use Rattle.naming.proofs.First.{Without, to_none, to-first, first-le}
use Rattle.naming.proofs.Starts.{kind-is, start-read, named-listed}
use Rattle.queries.specs.Parts.{numbered}
use Rattle.judging.specs.Judging.{element_for, entry_for, named_by, object_for}

-- what has a tag is a record
pub tag-some : (p : List ℕ) (es : List Entry) (r x : ℕ) → tag_of p es r ≡ suc x → r ≡ 0 → ⊥
unfolding tag_of
tag-some p es zero x e z = omega (arith, e)
tag-some p es (suc r) x e z = omega (arith, z)

-- ---- the device element with a number

module _ (p starts : List ℕ) (some : 0 < length starts) (element : ℕ) where
  -- all starts but the end of the last record
  abbrev places : List ℕ
  places = take (length starts - 1) starts

  -- whether the device element with the number starts at a place
  abbrev pub test : ℕ → Bool
  test at = eqb (cond (eqb (mark_code (mark_of (three p at))) 2) (suc (element_of p at).number) 0) (suc element)

  abbrev pub Fits : ℕ → Type 0
  Fits at = test at ≡ true

  abbrev pub Fails : ℕ → Type 0
  Fails at = test at ≡ false

  count : length places ≡ length (entries_of p starts)
  count = omega (arith, length-take-le (length starts - 1) starts (omega arith), entries-long p starts)

  key-read : (i : ℕ) → i < length places → test (get_or places i 0) ≡ eqb (element_key p (entries_of p starts) i) (suc element)
  key-read i l =
      let inside : suc i < length starts = omega (arith, count, l, entries-long p starts) in
      rw (get_or-take (length starts - 1) starts i 0 (omega arith), kind-is p starts i inside, start-read p starts i inside) refl

  failing : (n : ℕ) → n ≤ length places → AllWithin Fails places 0 n → Without (element_key p (entries_of p starts)) (suc element) n
  failing n b f j l = eqb-false _ _ (sym (key-read j (omega arith)) ∙ f j 0 (omega arith) l)

  pub element-found : (r : Option ℕ) → MatchOption r (AllWithin Fails places 0 (length places)) (λ i. (i < length places) × HoldsAt Fits places i × AllWithin Fails places 0 i)
      → numbered r ≡ element_for p (entries_of p starts) element
  unfolding element_for
  element-found None f =
      sym (to_none (element_key p (entries_of p starts)) (suc element) (length (entries_of p starts)) (subst (Without (element_key p (entries_of p starts)) (suc element)) count (failing (length places) (omega arith) f)))
  element-found (Some i) f =
      sym (to-first (element_key p (entries_of p starts)) (suc element) (length (entries_of p starts)) i (omega (arith, count, f.0))
      (eqb-true _ _ (sym (key-read i f.0) ∙ f.1 0)) (failing i (omega (arith, f.0)) f.2))

-- ---- the object of a DDI in a list

module _ (p : List ℕ) (es : List Entry) (at ddi : ℕ) where
  -- the tag of what entry m of the list names
  abbrev tagNamed : ℕ → ℕ
  tagNamed m = tag_of p es (named es (entry_of p at m))

  -- what entry m names, by its number from 1, if it has the DDI
  abbrev pub answer : ℕ → ℕ
  answer m = cond (eqb (tagNamed m) (suc ddi)) (named es (entry_of p at m)) 0

  missing : (m : ℕ) → 0 ≡ answer m → tagNamed m ≡ suc ddi → ⊥
  missing m none e = tag-some p es (named es (entry_of p at m)) ddi e (sym (rw (eq-eqb _ _ e) at none))

  given : (m y : ℕ) → suc y ≡ answer m → (tagNamed m ≡ suc ddi) × (suc y ≡ named es (entry_of p at m))
  given m y h = go (eqb (tagNamed m) (suc ddi)) refl
    where
      go : (b : Bool) → eqb (tagNamed m) (suc ddi) ≡ b → (tagNamed m ≡ suc ddi) × (suc y ≡ named es (entry_of p at m))
      go true e = (eqb-true _ _ e, rw e at h)
      go false e = let none : suc y ≡ 0 = rw e at h in absurd (omega arith)

  pub object-found : (r : Option ℕ)
      → MatchOption r ((m : ℕ) → m < (element_of p at).entries → 0 ≡ answer m) (λ y. (m : ℕ) × (m < (element_of p at).entries) × (suc y ≡ answer m) × ((k : ℕ) → k < m → 0 ≡ answer k))
      → numbered r ≡ object_for p es at ddi
  unfolding entry_for
  object-found None f = sym (ap (named_by p es at) (to_none tagNamed (suc ddi) (element_of p at).entries (λ (j : ℕ) (l : j < (element_of p at).entries). missing j (f j l))))
  object-found (Some y) f =
      let g = given f.0 y f.2 in
      g.1 ∙ sym (ap (named_by p es at) (to-first tagNamed (suc ddi) (element_of p at).entries f.0 f.1 g.0 (λ (j : ℕ) (l : j < f.0). missing j (f.3 j l))))

module _ (p starts : List ℕ) where
  -- what is found is listed
  module _ (some : 0 < length starts) where
    pub element-listed : (element : ℕ) → element_for p (entries_of p starts) element < length starts
    unfolding element_for
    element-listed element =
        omega (arith, first-le (element_key p (entries_of p starts)) (suc element) (length (entries_of p starts)), entries-long p starts)

    pub object-listed : (at ddi : ℕ) → object_for p (entries_of p starts) at ddi < length starts
    object-listed at ddi = go (entry_for p (entries_of p starts) at ddi)
      where
        go : (m : ℕ) → named_by p (entries_of p starts) at m < length starts
        go zero = omega arith
        go (suc m) = named-listed p starts (entry_of p at m) some
