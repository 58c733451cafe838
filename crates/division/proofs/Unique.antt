-- No record is shorter than 12 bytes, and no pool divides into records in two ways. Assumes nothing.
use mathlib.Core.Path.{◌≡◌, refl, sym, ap, ap₂, ◌∙◌}
use mathlib.Core.List.{List, [], ◌∷◌, ◌++◌}
use Prim.Native.Nat.{ℕ, ◌+◌, ◌≤◌}
use native.Mathlib.Omega.{arith}
use lib.ListN.{length, take, drop, length-append}
use lib.Seq.{take_at, drop_at}
use Rattle.std.specs.Prelude.{Result, Ok}
use Rattle.wire.specs.Parts.{joined}
use Rattle.records.specs.Layout.{Field, fixed, text, entries, layout}
use Rattle.records.specs.Extents.{extent_of}
use Rattle.records.specs.declared.Kind.{Kind}
use Rattle.records.specs.declared.Kind.TheVariants.{Dvc, Det, Dpd, Dpt, Dvp}
use Rattle.records.specs.declared.Flaw.{Flaw}
use Rattle.division.specs.Whole.{Is, Fills, Whole}
use Rattle.division.specs.Division.{AllWhole}
use Rattle.division.specs.Claims.{Unique, Shortest}
use Rattle.division.proofs.Marks.{mark-length}
use Rattle.division.proofs.Records.{whole-ends}

-- ---- the least that fields take
abbrev pub least_of : Field → ℕ
least_of (fixed n) = n
least_of (text limit) = 1
least_of entries = 2

abbrev pub least : List Field → ℕ
least [] = 0
least (f ∷ fs) = least_of f + least fs

field-least : (f : Field) (b : List ℕ) → Is f b → least_of f ≤ length b
field-least (fixed n) b h = omega arith
field-least (text limit) b h = rw h.2 (omega arith)
field-least entries b h = rw h.3 (omega arith)

pub fields-least : (fs : List Field) (b : List ℕ) → Fills fs b → least fs ≤ length b
fields-least [] b h = omega arith
fields-least (f ∷ fs) b h =
    rw (h.2, length-append) (omega (arith, field-least f h.0 h.3, fields-least fs h.1 h.4))

kind-least : (k : Kind) → 12 ≤ 3 + least (layout k)
unfolding layout
kind-least Dvc = omega arith
kind-least Det = omega arith
kind-least Dpd = omega arith
kind-least Dpt = omega arith
kind-least Dvp = omega arith

pub shortest : Shortest
shortest r w =
    let k : Kind = w.kind in
    rw (w.marked, length-append)
    (omega (arith, mark-length k, kind-least k, fields-least (layout k) w.body w.filled))

-- ---- whole records at the start of the same bytes are the same
pub same-front : (r s x y : List ℕ) → Whole r → Whole s → r ++ x ≡ s ++ y → (r ≡ s) × (x ≡ y)
same-front r s x y v w e =
    let n : ◌≡◌ {A = Result ℕ Flaw} (Ok (0 + length r)) (Ok (0 + length s)) = sym (whole-ends r [] x v) ∙ ap (λ (l : List ℕ). extent_of l 0) e ∙ whole-ends s [] y w in
    let m : 0 + length r ≡ 0 + length s = cc in
    let l : length s ≡ length r = omega arith in (
      sym (take_at r x (length r) refl) ∙ ap (take (length r)) e ∙ take_at s y (length r) l,
      sym (drop_at r x (length r) refl) ∙ ap (drop (length r)) e ∙ drop_at s y (length r) l,
    )

-- a whole record and more is not nothing
some_bytes : (r x : List ℕ) → Whole r → [] ≡ r ++ x → ⊥
some_bytes r x w e =
    let l : 0 ≡ length (r ++ x) = ap length e in
    omega (arith, shortest r w, length-append r x)

pub same_parts : (rs ss : List (List ℕ)) → AllWhole rs → AllWhole ss → joined rs ≡ joined ss → rs ≡ ss
same_parts [] [] v w e = refl
same_parts [] (s ∷ ss) v w e = absurd (some_bytes s (joined ss) w.0 e)
same_parts (r ∷ rs) [] v w e = absurd (some_bytes r (joined rs) v.0 (sym e))
same_parts (r ∷ rs) (s ∷ ss) v w e =
    let f = same-front r s (joined rs) (joined ss) v.0 w.0 e in
    ap₂ (λ (h : List ℕ) (t : List (List ℕ)). h ∷ t) f.0 (same_parts rs ss v.1 w.1 f.1)

pub unique : Unique
unique p rs ss v w = same_parts rs ss v.whole w.whole (sym v.same ∙ w.same)
