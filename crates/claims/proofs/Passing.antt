-- The walk over whole records, and over what follows them. Assumes nothing.
use mathlib.Core.Path.{◌≡◌, refl, ap, ◌∙◌}
use mathlib.Core.List.{List, [], ◌∷◌, ◌++◌, append_assoc, append-nil}
use Prim.Native.Nat.{ℕ, zero, suc, ◌+◌, ◌-◌, ◌≤◌, ◌<◌}
use native.Mathlib.Omega.{arith}
use lib.ListN.{length, get_or, take, drop, length-append, length-drop, get_or-append}
use lib.Seq.{get_or-append-add, take_at, take-append-le, drop-append-le, drop-append-add}
use Rattle.std.specs.Prelude.{Some, Result, Err}
use Rattle.wire.specs.Parts.{joined}
use Rattle.wire.specs.Bytes.{le_of, number_in}
use Rattle.records.specs.Layout.{mark, layout, mark_code, mark_of, three}
use Rattle.records.specs.Extents.{extent_of}
use Rattle.records.specs.Places.{field_at, id_of, parent_id_of}
use Rattle.records.specs.declared.Kind.{Kind}
use Rattle.records.specs.declared.Kind.TheVariants.{Dvc, Det, Dpd, Dpt, Dvp}
use Rattle.records.specs.declared.Flaw.{Flaw}
use Rattle.records.specs.declared.Flaw.TheVariants.{NoMark, Cut, LengthOver}
use Rattle.records.proofs.Range.{parent-within}
use Rattle.division.specs.Whole.{Whole}
use Rattle.division.specs.Division.{AllWhole}
use Rattle.division.proofs.Marks.{mark-length, mark-of, three-behind}
use Rattle.division.proofs.Records.{whole-ends, unmarked-refused, cut-refused, over-refused}
use Rattle.division.proofs.Unique.{shortest}
use Rattle.pool.specs.Answer.{Answer, answer}
use Rattle.pool.specs.Reading.{Entry, entry_at, Scan, records, refused, onto, turn, scan_from, scan_of}
use Rattle.pool.proofs.Steps.{scan-turn, scan-end}
use Rattle.claims.specs.Reads.{parent_in, whole_entry, listed, Bad, Bad.unmarked as bad-mark, Bad.cut as bad-cut, Bad.over as bad-over, Earliest}

-- ---- the entry of a whole record behind other bytes
module _ (r pre post : List ℕ) (w : Whole r) where
  kind-behind : mark_of (three (pre ++ (r ++ post)) (length pre)) ≡ Some w.kind
  kind-behind =
      let m : List ℕ = mark w.kind in
      rw (three-behind pre (r ++ post) (omega (arith, shortest r w, length-append r post)), w.marked, append_assoc, take_at m (w.body ++ post) 3 (mark-length w.kind))
      (mark-of w.kind)

  id-behind : id_of (pre ++ (r ++ post)) (length pre) ≡ le_of (take 2 (drop 3 r))
  unfolding id_of number_in
  id-behind =
      let h : 3 ≤ length r = omega (arith, shortest r w) in
      let g : 2 ≤ length (drop 3 r) = omega (arith, shortest r w, length-drop 3 r) in
      rw (drop-append-add pre (r ++ post) 3, drop-append-le 3 r post h, take-append-le 2 (drop 3 r) post g)

  parent-behind : parent_id_of (pre ++ (r ++ post)) (length pre) ≡ parent_in w.kind r
  unfolding parent_id_of field_at layout number_in
  parent-behind = go w.kind kind-behind
    where
      p : List ℕ
      p = pre ++ (r ++ post)

      go : (k : Kind) → mark_of (three p (length pre)) ≡ Some k → parent_id_of p (length pre) ≡ parent_in k r
      go Dvc m = rw m
      go Det m =
          let six : length pre + 3 + 2 + 1 ≡ length pre + 6 = omega arith in
          let n : get_or p (length pre + 6) 0 ≡ get_or r 6 0 = get_or-append-add pre (r ++ post) 6 0 ∙ get_or-append r post 0 6 (omega (arith, shortest r w)) in
          let within = parent-within p (length pre) (length pre + length r) (whole-ends r pre post w) (ap mark_code m) in
          let place : length pre + 6 + 1 + get_or r 6 0 + 2 ≡ length pre + (9 + get_or r 6 0) = omega arith in
          let h : 9 + get_or r 6 0 + 2 ≤ length r = omega (arith, rw (six, n) at within) in
          let g : 2 ≤ length (drop (9 + get_or r 6 0) r) = omega (arith, length-drop (9 + get_or r 6 0) r) in
          rw (m, six, n, place, drop-append-add pre (r ++ post) (9 + get_or r 6 0), drop-append-le (9 + get_or r 6 0) r post (omega (arith, h)), take-append-le 2 (drop (9 + get_or r 6 0) r) post g)
      go Dpd m = rw m
      go Dpt m = rw m
      go Dvp m = rw m

  entry-behind : entry_at (pre ++ (r ++ post)) (length pre) (length pre + length r) ≡ whole_entry r w (length pre)
  entry-behind =
      let size : length pre + length r - length pre ≡ length r = omega arith in
      rw (kind-behind, id-behind, parent-behind, size)

-- ---- entries in front of what is walked behind them
abbrev onto_all : List Entry → Scan → Scan
onto_all [] s = s
onto_all (e ∷ es) s = onto e (onto_all es s)

onto-none : (es : List Entry) → onto_all es (records []) ≡ records es
onto-none [] = refl
onto-none (e ∷ es) = rw (onto-none es)

onto-refused : (es : List Entry) (a : Answer) → onto_all es (refused a) ≡ refused a
onto-refused [] a = refl
onto-refused (e ∷ es) a = rw (onto-refused es a)

-- bytes that a walk sees alike wherever they stand
abbrev Walked : List ℕ → (ℕ → Scan) → Type 0
Walked tail end = (front : List ℕ) (turns : ℕ) → length tail ≤ turns → scan_from turns (front ++ tail) (length front) ≡ end (length front)

-- the walk over whole records: their entries, and then what is walked behind them
walk-past : (tail : List ℕ) (end : ℕ → Scan) → Walked tail end
    → (rs : List (List ℕ)) (w : AllWhole rs) (pre : List ℕ) (turns : ℕ) → length (joined rs ++ tail) ≤ turns
    → scan_from turns (pre ++ (joined rs ++ tail)) (length pre) ≡ onto_all (listed rs w (length pre)) (end (length pre + length (joined rs)))
walk-past tail end law [] w pre turns h = let z : length pre + 0 ≡ length pre = omega arith in rw z (law pre turns h)
walk-past tail end law (r ∷ rs) w pre zero h =
    absurd (omega (arith, shortest r w.0, length-append (r ++ joined rs) tail, length-append r (joined rs)))
walk-past tail end law (r ∷ rs) w pre (suc turns) h =
    let post : List ℕ = joined rs ++ tail in
    let p : List ℕ = pre ++ (r ++ post) in
    let long : 12 ≤ length r = shortest r w.0 in
    let lr : length (r ++ post) ≡ length r + length post = length-append r post in
    let lp : length p ≡ length pre + length (r ++ post) = length-append pre (r ++ post) in
    let all : (r ++ joined rs) ++ tail ≡ r ++ post = append_assoc r (joined rs) tail in
    let la : length ((r ++ joined rs) ++ tail) ≡ length (r ++ post) = ap length all in
    let lj : length (r ++ joined rs) ≡ length r + length (joined rs) = length-append r (joined rs) in
    let sum : length pre + length r + length (joined rs) ≡ length pre + length (r ++ joined rs) = omega arith in
    let ih = walk-past tail end law rs w.1 (pre ++ r) turns (omega arith) in
    let later : scan_from turns p (length pre + length r) ≡ onto_all (listed rs w.1 (length pre + length r)) (end (length pre + length (r ++ joined rs)))
    = rw (append_assoc, length-append pre r, sum) at ih in
    rw all
    (scan-turn turns p (length pre) (omega arith)
    ∙ rw (whole-ends r pre post w.0, entry-behind r pre post w.0, later))

-- ---- a pool of whole records
pub scan-whole : (rs : List (List ℕ)) (w : AllWhole rs) → scan_of (joined rs) ≡ records (listed rs w 0)
unfolding scan_of
scan-whole rs w =
    let all : joined rs ++ [] ≡ joined rs = append-nil (joined rs) in
    let ends : Walked [] (λ at. records []) = λ front turns h. scan-end turns (front ++ []) (length front) (omega (arith, length-append front [])) in
    rw all at (walk-past [] (λ at. records []) ends rs w [] (length (joined rs)) (rw all (omega arith)))
    ∙ onto-none (listed rs w 0)

-- ---- a pool with a bad record: bytes that begin with no whole one end the walk
abbrev Stops : List ℕ → ℕ → ℕ → Type 0
Stops s number offset = Walked s (λ at. refused (answer number (at + offset)))

-- so does an extent that the walk refuses
stopped : (s : List ℕ) (x : ℕ → Result ℕ Flaw) (number q : ℕ) → 0 < length s
    → ((front : List ℕ) → extent_of (front ++ s) (length front) ≡ x (length front))
    → ((rest : ℕ → Scan) (p : List ℕ) (at : ℕ) → turn rest p at (x at) ≡ refused (answer number (at + q))) → Stops s number q
stopped s x number q some law due front zero h = absurd (omega arith)
stopped s x number q some law due front (suc turns) h =
    let p : List ℕ = front ++ s in
    scan-turn turns p (length front) (omega (arith, length-append front s))
    ∙ ap (turn (scan_from turns p) p (length front)) (law front)
    ∙ due (scan_from turns p) p (length front)

bad-stops : (s : List ℕ) (number offset : ℕ) → Bad s number offset → Stops s number offset
bad-stops s number offset (bad-mark u) =
    stopped s (λ at. Err NoMark) 3 0 (omega (arith, u.three)) (λ front. unmarked-refused s front u) (λ rest p at. ap (λ (n : ℕ). refused (answer 3 n)) (omega arith))
bad-stops s number offset (bad-cut some c) =
    stopped s (λ at. Err Cut) 4 0 some (λ front. cut-refused s front c) (λ rest p at. ap (λ (n : ℕ). refused (answer 4 n)) (omega arith))
bad-stops s number offset (bad-over w) =
    let k : List ℕ = mark w.kind in
    let l : length s ≡ length k + length (w.bytes ++ (w.over ∷ w.rest)) = ap length w.stands ∙ length-append k (w.bytes ++ (w.over ∷ w.rest)) in
    stopped s (λ at. Err (LengthOver (at + offset))) 5 offset (omega (arith, mark-length w.kind)) (λ front. over-refused s front offset w) (λ rest p at. refl)

pub scan-bad : (p : List ℕ) (number place : ℕ) → Earliest p number place → scan_of p ≡ refused (answer number place)
unfolding scan_of
scan-bad p number place e =
    let b = bad-stops e.rest number e.offset e.bad in
    let es : List Entry = listed e.before e.whole 0 in
    let at : 0 + length (joined e.before) + e.offset ≡ place = omega (arith, e.at) in
    let end : ℕ → Scan = λ n. refused (answer number (n + e.offset)) in
    let all : List ℕ = joined e.before ++ e.rest in
    let walked : scan_from (length all) all 0 ≡ onto_all es (refused (answer number place)) =
    rw at at (walk-past e.rest end b e.before e.whole [] (length all) (omega arith)) in
    rw e.same (walked ∙ onto-refused es (answer number place))
