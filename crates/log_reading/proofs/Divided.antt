-- A log is read exactly if it consists of records joined. Assumes nothing.
use mathlib.Core.Path.{◌≡◌, refl, sym, ap, ◌∙◌}
use mathlib.Core.List.{List, [], ◌∷◌, ◌++◌}
use Prim.Native.Nat.{ℕ, zero, suc, ◌+◌, ◌-◌, ◌≤◌, ◌<◌}
use native.Mathlib.Omega.{arith}
use borrow.Author.Tests.{eqb-true, eqb-false, le-ltb}
use lib.Dec.{eqb}
use lib.ListN.{length, take, drop, length-append, length-drop, take-append-drop}
use lib.Seq.{length-take-le, get_or-take, drop-append_seam}
use Rattle.wire.proofs.Either.{by-case}
use Rattle.wire.specs.Parts.{joined}
use Rattle.time_log.specs.Layout.{place_of, record_length}
use Rattle.time_log.specs.Contents.{values_counted, extent_of}
use Rattle.time_log.specs.Judging.{record_refusal}
use Rattle.time_log.proofs.Parts.{count_inside}
use Rattle.log_reading.specs.Logs.{whole_log, walk, log_of}
use Rattle.log_reading.specs.Joined.{OneRecord, AllRecords, Records, LogsAreRecords}
use Rattle.log_reading.specs.declared.Log.{Log}
use Rattle.log_reading.proofs.Prefix.{granted, extent-same, refusal-more, refusal-less}
use Rattle.log_reading.proofs.Walks.{walk_end, walk-on, walk-stop}

empty : (s : List ℕ) → length s ≡ 0 → s ≡ []
empty [] e = refl
empty (x ∷ s) e = absurd (omega (arith, e))

module _ (layout logged : ℕ) where
  -- the record that the bytes start with, cut off
  pub first : (s : List ℕ) → record_refusal layout logged s ≡ 0 → OneRecord layout logged (take (extent_of layout s) s)
  first s e =
      let g = granted layout logged s e in
      let w = extent_of layout s in
      let n : length (take w s) ≡ w = length-take-le w s g.whole in
      let same : values_counted layout (take w s) ≡ values_counted layout s = get_or-take w s (place_of layout 9) 0 (count_inside layout (values_counted layout s)) in
      let f : extent_of layout (take w s) ≡ w = ap (record_length layout) same in
      record { long = n ∙ sym f; right = refusal-less layout logged (take w s) (drop w s) (omega (arith, n, count_inside layout (values_counted layout s))) (omega (arith, n, f)) (rw (take-append-drop w s) e) }

  none : (turns at n m : ℕ) (s : List ℕ) → length s ≡ 0 → walk layout logged turns at n s ≡ whole_log m
      → (rs : List (List ℕ)) × AllRecords layout logged rs × (s ≡ joined rs) × (n + length rs ≡ m)
  none turns at n m s z e = ([], tt, empty s z, omega (arith, ap (λ (l : Log). l.count) (walk_end layout logged turns at n s z ∙ e)))

  gather : (turns at n m : ℕ) (s : List ℕ) → length s ≤ turns → walk layout logged turns at n s ≡ whole_log m
      → (rs : List (List ℕ)) × AllRecords layout logged rs × (s ≡ joined rs) × (n + length rs ≡ m)
  gather zero at n m s h e = none zero at n m s (omega (arith, h)) e
  gather (suc turns) at n m s h e =
      by-case (eqb (length s) 0)
      (λ z. none (suc turns) at n m s (eqb-true (length s) 0 z) e)
      (λ z.
      let l : 0 < length s = omega (arith, eqb-false (length s) 0 z) in
      by-case (eqb (record_refusal layout logged s) 0)
      (λ y.
      let q = eqb-true (record_refusal layout logged s) 0 y in
      let w = extent_of layout s in
      let f : suc turns - 1 ≡ turns = omega arith in
      let p = length-drop w s in
      let rest = gather turns (at + w) (n + 1) m (drop w s) (omega (arith, h, p, count_inside layout (values_counted layout s))) (rw f at (walk-on layout logged (suc turns) at n s (omega arith) l q ∙ e)) in
      (take w s ∷ rest.0, (first s q, rest.1), sym (take-append-drop w s) ∙ ap (λ (x : List ℕ). take w s ++ x) rest.2, omega (arith, rest.3)))
      (λ y. absurd (eqb-false (record_refusal layout logged s) 0 y (ap (λ (l : Log). l.number) (walk-stop layout logged (suc turns) at n s (record_refusal layout logged s) (omega arith) l refl (eqb-false (record_refusal layout logged s) 0 y) ∙ e)))))

  spread : (rs : List (List ℕ)) (turns at n : ℕ) → AllRecords layout logged rs → length (joined rs) ≤ turns → walk layout logged turns at n (joined rs) ≡ whole_log (n + length rs)
  spread [] turns at n a h = sym (walk_end layout logged turns at n [] refl) ∙ ap whole_log (omega arith)
  spread (r ∷ rs) turns at n a h =
      let o = a.0 in
      let g = granted layout logged r o.right in
      let f : extent_of layout (r ++ joined rs) ≡ length r = extent-same layout r (joined rs) g.counted ∙ sym o.long in
      let m = length-append r (joined rs) in
      let d : drop (extent_of layout (r ++ joined rs)) (r ++ joined rs) ≡ joined rs = ap (λ (k : ℕ). drop k (r ++ joined rs)) f ∙ drop-append_seam r (joined rs) in
      sym (walk-on layout logged turns at n (r ++ joined rs) (omega (arith, h, m, g.counted)) (omega (arith, m, g.counted)) (refusal-more layout logged r (joined rs) o.right))
      ∙ ap (walk layout logged (turns - 1) (at + extent_of layout (r ++ joined rs)) (n + 1)) d
      ∙ spread rs (turns - 1) (at + extent_of layout (r ++ joined rs)) (n + 1) a.1 (omega (arith, h, m, g.counted))
      ∙ ap whole_log (omega arith)

pub logs-are-records : LogsAreRecords
unfolding log_of
logs-are-records layout logged n s h = rw (le-ltb 511 layout h) (to, from)
  where
    to : walk layout logged (length s) 0 0 s ≡ whole_log n → Records layout logged n s
    to e =
        let g = gather layout logged (length s) 0 0 n s (omega arith) e in
        record { parts = g.0; records = g.1; same = g.2; count = omega (arith, g.3) }

    from : Records layout logged n s → walk layout logged (length s) 0 0 s ≡ whole_log n
    from p =
        let z : 0 + length p.parts ≡ n = omega (arith, p.count) in
        ap (λ (t : List ℕ). walk layout logged (length t) 0 0 t) p.same
        ∙ spread layout logged p.parts (length (joined p.parts)) 0 0 p.records (omega arith)
        ∙ ap whole_log z
