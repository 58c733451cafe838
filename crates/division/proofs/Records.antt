-- A record after any bytes: what is read from it, and what any bytes can be when read as a record. Assumes nothing.
use mathlib.Core.Path.{◌≡◌, refl, sym, ap, ◌∙◌, subst}
use mathlib.Core.Logic.{inl, inr}
use mathlib.Core.List.{List, ◌∷◌, ◌++◌, append_assoc}
use Prim.Native.Nat.{ℕ, ◌+◌, ◌≤◌}
use native.Mathlib.Omega.{arith}
use native.Mathlib.Decide.{dec_le}
use lib.ListN.{length, take, drop, length-append, take-append-drop}
use Rattle.std.specs.Prelude.{None, Ok, Err}
use Rattle.records.specs.Layout.{mark, mark_of, layout}
use Rattle.records.specs.Extents.{extent_of, marked_end}
use Rattle.records.specs.declared.Kind.{Kind}
use Rattle.records.specs.declared.Flaw.TheVariants.{NoMark, Cut, LengthOver}
use Rattle.records.proofs.Ends.{mark-cut}
use Rattle.division.specs.Whole.{Fills, Whole}
use Rattle.division.specs.Bad.{Unmarked, CutShort, OverLimit}
use Rattle.division.proofs.Reading.{Reading, whole, cut, wrong, behind, longer-front}
use Rattle.division.proofs.Runs.{SomeOver, fields-whole, fields-cut, fields-over, fields-reading}
use Rattle.division.proofs.Marks.{Marked, of, of_none, marked, mark-length, mark-behind, past-mark}

-- ---- what is read
pub whole-ends : (r pre post : List ℕ) → Whole r → extent_of (pre ++ (r ++ post)) (length pre) ≡ Ok (length pre + length r)
whole-ends r pre post w =
    let m : List ℕ = mark w.kind in
    rw (w.marked, append_assoc)
    (past-mark w.kind pre (w.body ++ post)
    ∙ fields-whole (layout w.kind) w.body (pre ++ m) post w.filled
    ∙ ap Ok (omega (arith, length-append pre m, length-append m w.body)))

pub unmarked-refused : (s pre : List ℕ) → Unmarked s → extent_of (pre ++ s) (length pre) ≡ Err NoMark
unmarked-refused s pre u = mark-behind pre s u.three ∙ ap (λ m. marked_end m (pre ++ s) (length pre + 3)) (go (marked (take 3 s)))
  where
    go : Marked (take 3 s) → mark_of (take 3 s) ≡ None
    go (of k e) = absurd (u.none k e)
    go (of_none n e) = e

pub cut-refused : (s pre : List ℕ) → CutShort s → extent_of (pre ++ s) (length pre) ≡ Err Cut
cut-refused s pre (inl l) = mark-cut (pre ++ s) (length pre) (omega (arith, length-append pre s))
cut-refused s pre (inr c) = go (dec_le 3 (length s))
  where
    m : List ℕ
    m = c.0

    w : Whole (s ++ m)
    w = c.2

    go : Dec (3 ≤ length s) → extent_of (pre ++ s) (length pre) ≡ Err Cut
    go (yes h) =
        let k : List ℕ = mark w.kind in
        let n : length k ≡ 3 = mark-length w.kind in
        let e = longer-front k w.body s m (sym w.marked) (omega arith) in
        let t : List ℕ = drop (length k) s in
        rw e.0
        (past-mark w.kind pre t ∙ fields-cut (layout w.kind) t m (pre ++ k) c.1 (subst (Fills (layout w.kind)) e.1 w.filled))
    go (no h) = mark-cut (pre ++ s) (length pre) (omega (arith, length-append pre s))

pub over-refused : (s pre : List ℕ) (place : ℕ) → OverLimit s place → extent_of (pre ++ s) (length pre) ≡ Err (LengthOver (length pre + place))
over-refused s pre place w =
    let m : List ℕ = mark w.kind in
    let n : length (pre ++ m) + length w.bytes ≡ length pre + place = omega (arith, length-append pre m, mark-length w.kind) in
    rw (w.stands, past-mark w.kind pre (w.bytes ++ (w.over ∷ w.rest)), w.fields, ← n)
    (fields-over w.before w.limit w.after w.bytes (pre ++ m) w.over w.rest w.filled w.exceeds)

-- ---- what bytes can be
pub data Seen (s : List ℕ) : Type 0 where
  begins : (r rest : List ℕ) → s ≡ r ++ rest → Whole r → Seen s
  unmarked : Unmarked s → Seen s
  short : CutShort s → Seen s
  over : (place : ℕ) → OverLimit s place → Seen s

marked-over : (k : Kind) (s : List ℕ) → SomeOver (layout k) s → (place : ℕ) × OverLimit (mark k ++ s) place
marked-over k s w = (
  3 + length w.bytes,
  record {
    kind = k;
    before = w.before;
    limit = w.limit;
    after = w.after;
    fields = w.fields;
    bytes = w.bytes;
    filled = w.filled;
    over = w.over;
    rest = w.rest;
    stands = ap (λ (l : List ℕ). mark k ++ l) w.stands;
    exceeds = w.exceeds;
    at = refl;
  },
)

-- any bytes begin with a record or are one of the bad ones
pub seen : (s : List ℕ) → Seen s
seen s = long (dec_le 3 (length s))
  where
    filled : Reading Whole ((place : ℕ) × OverLimit s place) s → Seen s
    filled (whole r rest e w) = begins r rest e w
    filled (cut m o w) = short (inr (m, o, w))
    filled (wrong w) = over w.0 w.1

    named : 3 ≤ length s → Marked (take 3 s) → Seen s
    named h (of k e) =
        let t : List ℕ = drop 3 s in
        let q : mark k ++ t ≡ s = ap (λ (l : List ℕ). l ++ t) (sym e) ∙ take-append-drop 3 s in
        filled
        (subst (λ (l : List ℕ). Reading Whole ((place : ℕ) × OverLimit l place) l) q
        (behind (mark k) t (λ b f. record { kind = k; body = b; marked = refl; filled = f }) (marked-over k t) (fields-reading (layout k) t)))
    named h (of_none n e) = unmarked (record { three = h; none = n })

    long : Dec (3 ≤ length s) → Seen s
    long (yes h) = named h (marked (take 3 s))
    long (no h) = short (inl (omega arith))
