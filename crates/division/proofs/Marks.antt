-- The three letters at a record's start. Assumes nothing.
use mathlib.Core.Path.{◌≡◌, refl, sym, ap, ap₂, ◌∙◌, subst}
use mathlib.Core.Bool.{Bool, true, false, cond}
use mathlib.Core.List.{List, [], ◌∷◌, ◌++◌, append_assoc}
use Prim.Native.Nat.{ℕ, ◌+◌, ◌≤◌}
use native.Mathlib.Omega.{arith}
use borrow.Author.Tests.{eqb-true}
use lib.Dec.{eqb}
use lib.ListN.{length, take, length-append}
use lib.Seq.{get_or-append_seam, get_or-append-add, take_at}
use Rattle.std.specs.Prelude.{Option, Some, None, Ok}
use Rattle.wire.proofs.Either.{both}
use Rattle.records.specs.Layout.{mark, same, mark_of, three, layout}
use Rattle.records.specs.Extents.{extent_of, fields_end, marked_end}
use Rattle.records.specs.declared.Kind.{Kind}
use Rattle.records.specs.declared.Kind.TheVariants.{Dvc, Det, Dpd, Dpt, Dvp}
use Rattle.records.proofs.Ends.{mark-whole}

pub mark-length : (k : Kind) → length (mark k) ≡ 3
unfolding mark
mark-length Dvc = refl
mark-length Det = refl
mark-length Dpd = refl
mark-length Dpt = refl
mark-length Dvp = refl

-- ---- the kind that a mark stands for
same-equal : (s t : List ℕ) → same s t ≡ true → s ≡ t
same-equal [] [] e = refl
same-equal [] (y ∷ t) e = let z : ◌≡◌ {A = ℕ} 0 1 = cc in absurd (omega arith)
same-equal (x ∷ s) [] e = let z : ◌≡◌ {A = ℕ} 0 1 = cc in absurd (omega arith)
same-equal (x ∷ s) (y ∷ t) e =
    let h = both (eqb x y) (same s t) e in
    ap₂ (λ (n : ℕ) (l : List ℕ). n ∷ l) (eqb-true x y h.0) (same-equal s t h.1)

pub mark-of : (k : Kind) → mark_of (mark k) ≡ Some k
unfolding mark_of mark
mark-of Dvc = refl
mark-of Det = refl
mark-of Dpd = refl
mark-of Dpt = refl
mark-of Dvp = refl

-- what a mark says of the bytes it was told from
abbrev Says : List ℕ → Option Kind → Type 0
Says s (Some k) = s ≡ mark k
Says s None = Unit {0}

mark-says : (s : List ℕ) → Says s (mark_of s)
unfolding mark_of
mark-says s = (test Dvc (test Det (test Dpd (test Dpt (test Dvp (None, tt)))))).1
  where
    test : Kind → (m : Option Kind) × Says s m → (m : Option Kind) × Says s m
    test k h = (cond (same s (mark k)) (Some k) h.0, go (same s (mark k)) refl)
      where
        go : (b : Bool) → same s (mark k) ≡ b → Says s (cond b (Some k) h.0)
        go true e = same-equal s (mark k) e
        go false e = h.1

-- bytes are the mark of a kind, or of none
pub data Marked (s : List ℕ) : Type 0 where
  of : (k : Kind) → s ≡ mark k → Marked s
  of_none : ((k : Kind) → s ≡ mark k → ⊥) → mark_of s ≡ None → Marked s

pub marked : (s : List ℕ) → Marked s
marked s = go (mark_of s) refl
  where
    go : (m : Option Kind) → mark_of s ≡ m → Marked s
    go (Some k) e = of k (subst (Says s) e (mark-says s))
    go None e =
        of_none
        (λ k q.
        let z : ◌≡◌ {A = Option Kind} (Some k) None = sym (mark-of k) ∙ sym (ap mark_of q) ∙ e in
        let z' : ◌≡◌ {A = ℕ} 0 1 = cc in
        omega arith)
        e

-- ---- a mark behind other bytes
pub three-behind : (pre s : List ℕ) → 3 ≤ length s → three (pre ++ s) (length pre) ≡ take 3 s
three-behind pre [] h = absurd (omega arith)
three-behind pre (a ∷ []) h = absurd (omega arith)
three-behind pre (a ∷ b ∷ []) h = absurd (omega arith)
three-behind pre (a ∷ b ∷ c ∷ s) h =
    let t : List ℕ = a ∷ b ∷ c ∷ s in
    rw (get_or-append_seam pre a (b ∷ c ∷ s) 0, get_or-append-add pre t 1 0, get_or-append-add pre t 2 0)

pub mark-behind : (pre s : List ℕ) → 3 ≤ length s → extent_of (pre ++ s) (length pre) ≡ marked_end (mark_of (take 3 s)) (pre ++ s) (length pre + 3)
mark-behind pre s h = mark-whole (pre ++ s) (length pre) (omega (arith, length-append pre s)) ∙ rw (three-behind pre s h)

-- past a mark the fields of its kind are read behind it
pub past-mark : (k : Kind) (pre s : List ℕ)
    → extent_of (pre ++ (mark k ++ s)) (length pre) ≡ fields_end (layout k) ((pre ++ mark k) ++ s) (Ok (length (pre ++ mark k)))
past-mark k pre s =
    let l = mark-length k in
    mark-behind pre (mark k ++ s) (omega (arith, length-append (mark k) s))
    ∙ rw (take_at (mark k) s 3 l, mark-of k, append_assoc, length-append, l)
