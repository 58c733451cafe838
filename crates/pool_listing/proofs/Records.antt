-- The lines of records, one record after the other. Assumes nothing.
use mathlib.Core.Path.{◌≡◌, refl, sym, ap, ◌∙◌}
use mathlib.Core.List.{List, [], ◌∷◌, ◌++◌, append-nil, append_assoc}
use Prim.Native.Nat.{ℕ, suc, ◌+◌, ◌-◌, ◌≤◌, ◌<◌}
use native.Mathlib.Omega.{arith}
use native.Mathlib.Numerals.{add-one}
use lib.ListN.{length, get_or, take, drop, length-drop}
use lib.Seq.{take-suc, take_all, length-take-le, get_or-drop, get_or-take}
use Rattle.records.specs.Layout.{mark_code, mark_of, three}
use Rattle.records.specs.Places.{id_of}
use Rattle.pool.specs.Reading.{Entry, entry_at}
use Rattle.pool.specs.Walk.{entries_of}
use Rattle.pool.proofs.Starts.{entries-long, entry-at}
use Rattle.listing.specs.Lines.{record_line}
use Rattle.pool_listing.specs.Listing.{record_lines}

abbrev line_of : Entry → List ℕ
line_of e = record_line e.kind e.id e.start e.size

lines_more : (es : List Entry) (e : Entry) → record_lines (es ++ e ∷ []) ≡ record_lines es ++ line_of e
unfolding record_lines
lines_more [] e = append-nil (line_of e)
lines_more (x ∷ es) e = ap (λ (l : List ℕ). line_of x ++ l) (lines_more es e) ∙ sym (append_assoc (line_of x) (record_lines es) (line_of e))

pub no-records : (es : List Entry) → record_lines (take 0 es) ≡ []
unfolding record_lines
no-records es = refl

module _ (p starts : List ℕ) where
  -- a record more
  pub record-more : (i : ℕ) → i + 1 < length starts
      → record_lines (take (i + 1) (entries_of p starts))
      ≡ record_lines (take i (entries_of p starts)) ++ record_line (mark_code (mark_of (three p (get_or starts i 0)))) (id_of p (get_or starts i 0)) (get_or starts i 0) (get_or starts (i + 1) 0 - get_or starts i 0)
  record-more i h =
      let es : List Entry = entries_of p starts in
      let none : Entry = entry_at p 0 0 in
      let l : suc i < length starts = omega arith in
      let long = entries-long p starts in
      rw (add-one i)
      (ap record_lines (take-suc es i none (omega arith)) ∙ lines_more (take i es) (get_or es i none) ∙ ap (λ (e : Entry). record_lines (take i es) ++ line_of e) (entry-at p starts none i l))

  -- the starts but the first, which are the ends of the records
  pub rest-long : length (take (length starts - 1) (drop 1 starts)) ≡ length starts - 1
  rest-long = length-take-le (length starts - 1) (drop 1 starts) (omega (arith, length-drop 1 starts))

  pub rest-at : (i : ℕ) → i < length starts - 1 → get_or (take (length starts - 1) (drop 1 starts)) i 0 ≡ get_or starts (i + 1) 0
  rest-at i h = let e : 1 + i ≡ i + 1 = omega arith in rw (get_or-take, get_or-drop, e)

  -- all of them
  pub record-all : (i : ℕ) → length starts ≤ i + 1 → record_lines (take i (entries_of p starts)) ≡ record_lines (entries_of p starts)
  record-all i h = let long = entries-long p starts in ap record_lines (take_all i (entries_of p starts) (omega arith))
