-- What is read is written again byte for byte. Assumes nothing.
use mathlib.Core.Path.{◌≡◌, refl, sym, ap, ◌∙◌}
use mathlib.Core.Bool.{Bool, true, false, cond, ◌||◌}
use mathlib.Core.List.{List, ◌++◌}
use Prim.Native.Nat.{ℕ, ◌+◌, ◌≤◌}
use native.Mathlib.Omega.{arith}
use borrow.Author.Tests.{eqb-true, eqb-false, le-ltb}
use lib.Dec.{eqb, ltb}
use lib.IntN.{ℤ}
use lib.ListN.{length, take, drop}
use lib.Seq.{sets, sets-eq, length-sets, length-take-le}
use Rattle.wire.specs.Bytes.{Octets}
use Rattle.time_log.specs.Layout.{place_of, record_length}
use Rattle.time_log.specs.Contents.{fields_at, values_counted, ordinals_at, values_at}
use Rattle.time_log.specs.Judging.{record_refusal}
use Rattle.time_log.specs.declared.Fields.{Fields}
use Rattle.log_reading.specs.Reading.{read_refusal, refused_by, whole_record, read_of}
use Rattle.log_reading.specs.declared.Record.{Record}
use Rattle.log_reading.proofs.Prefix.{granted}
use Rattle.log_reading.proofs.Answers.{neither, after-success}
use Rattle.log_writing.specs.Writing.{write_refusal, written_as, bytes_after}
use Rattle.log_writing.specs.Again.{WrittenAgain}
use Rattle.log_writing.proofs.Outcomes.{writable, written}
use Rattle.log_writing.proofs.Parts.{kept_same, ordinals-first, record-again}

-- a record that is read was not refused
not-refused : (layout logged : ℕ) (s : List ℕ) (a b : ℕ) (r : Record) → read_of layout logged s a b ≡ r → r.number ≡ 0 → read_refusal layout logged s a b ≡ 0
unfolding read_of
not-refused layout logged s a b r e z = go (read_refusal layout logged s a b) (eqb (read_refusal layout logged s a b) 0) refl (ap (λ (x : Record). x.number) e ∙ z)
  where
    go : (x : ℕ) (t : Bool) → eqb x 0 ≡ t → (cond t (whole_record layout s) (refused_by x)).number ≡ 0 → x ≡ 0
    go x true h k = eqb-true x 0 h
    go x false h k = k

-- nor was anything of it
read_whole : (layout logged : ℕ) (s : List ℕ) (a b : ℕ) → read_refusal layout logged s a b ≡ 0
    → (record_refusal layout logged s ≡ 0) × (values_counted layout s ≤ a) × (values_counted layout s ≤ b)
unfolding read_refusal
read_whole layout logged s a b =
    go (record_refusal layout logged s) (eqb (record_refusal layout logged s) 0) refl (ltb a (values_counted layout s) || ltb b (values_counted layout s)) refl
  where
    go : (x : ℕ) (t : Bool) → eqb x 0 ≡ t → (u : Bool) → (ltb a (values_counted layout s) || ltb b (values_counted layout s)) ≡ u → cond t (cond u 46 0) x ≡ 0
        → (x ≡ 0) × (values_counted layout s ≤ a) × (values_counted layout s ≤ b)
    go x true h true v e = absurd (omega arith)
    go x true h false v e = let n = neither a b (values_counted layout s) v in (eqb-true x 0 h, n.0, n.1)
    go x false h u v e = absurd (eqb-false x 0 h e)

module _ (s : List ℕ) (layout logged : ℕ) (ps : List ℕ) (ws : List ℤ) (to : List ℕ) (octets : Octets s) (read : read_refusal layout logged s (length ps) (length ws) ≡ 0) (room : record_length layout (values_counted layout s) ≤ length to) where
  abbrev N : ℕ
  N = values_counted layout s

  abbrev L : ℕ
  L = record_length layout N

  abbrev F : Fields
  F = fields_at layout s

  abbrev OS : List ℕ
  OS = sets ps 0 (ordinals_at layout s)

  abbrev VS : List ℤ
  VS = sets ws 0 (values_at layout s)

  may : write_refusal layout F logged OS VS N (length to) ≡ 0
  may =
      let w = read_whole layout logged s (length ps) (length ws) read in
      let g = granted layout logged s w.0 in
      writable to layout F logged OS VS N g.layout-small
      (rw (le-ltb 255 N (omega (arith, octets (place_of layout 9))), length-sets ps 0 (ordinals_at layout s), length-sets ws 0 (values_at layout s), le-ltb (length ps) N w.1, le-ltb (length ws) N w.2))
      (rw (kept_same layout s, ordinals-first layout s octets ps ws g.whole w.1 w.2) g.fields)
      room

  answered : record { number = 0; length = L } ≡ written_as (write_refusal layout F logged OS VS N (length to)) L
  answered = (written to layout F logged OS VS N may).0

  laid : bytes_after to layout F logged OS VS N ≡ take L s ++ drop L to
  laid =
      let w = read_whole layout logged s (length ps) (length ws) read in
      let g = granted layout logged s w.0 in
      let n : length (take L s) ≡ L = length-take-le L s g.whole in
      let z : 0 + length (take L s) ≡ L = omega arith in
      sym (written to layout F logged OS VS N may).1
      ∙ ap (sets to 0) (record-again layout s octets ps ws g.whole w.1 w.2)
      ∙ sets-eq (take L s) to 0 (omega arith)
      ∙ ap (λ (k : ℕ). take L s ++ drop k to) z

pub written-again : WrittenAgain
written-again s layout logged ps ws to r octets e z room =
    let q = not-refused layout logged s (length ps) (length ws) r e z in
    let a = after-success layout logged s ps ws q in
    let k : whole_record layout s ≡ r = a.0 ∙ e in
    let h : record_length layout (values_counted layout s) ≤ length to = rw (← k) at room in
    rw (← k, ← a.1, ← a.2) (sym (answered s layout logged ps ws to octets q h), laid s layout logged ps ws to octets q h)
