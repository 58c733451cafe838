-- A log is refused exactly if it is whole records and then bytes that are refused. Assumes nothing.
use mathlib.Core.Path.{◌≡◌, refl, sym, ap, ◌∙◌}
use mathlib.Core.Bool.{Bool, true, false, cond}
use mathlib.Core.Logic.{◌⊎◌, inl, inr}
use mathlib.Core.List.{List, [], ◌∷◌, ◌++◌, append_assoc}
use Prim.Native.Nat.{ℕ, zero, suc, ◌+◌, ◌-◌, ◌≤◌, ◌<◌}
use native.Mathlib.Omega.{arith}
use borrow.Author.Tests.{eqb-true, eqb-false, lt-ltb, le-ltb, ltb-true, ltb-false}
use lib.Dec.{eqb, ltb}
use lib.ListN.{length, take, drop, length-append, length-drop, take-append-drop}
use lib.Seq.{length-take-le, drop-append_seam}
use Rattle.wire.proofs.Either.{by-case}
use Rattle.wire.specs.Parts.{joined}
use Rattle.time_log.specs.Contents.{values_counted, extent_of}
use Rattle.time_log.specs.Judging.{record_refusal}
use Rattle.log_reading.specs.Logs.{bad_log, walk, log_of}
use Rattle.log_reading.specs.Joined.{AllRecords, RefusedAt, LogsAreRefused}
use Rattle.log_reading.specs.declared.Log.{Log}
use Rattle.log_reading.proofs.Prefix.{granted, extent-same, refusal-more}
use Rattle.log_reading.proofs.Walks.{walk_end, walk-on, walk-stop}
use Rattle.time_log.proofs.Parts.{count_inside}
use Rattle.log_reading.proofs.Divided.{first}

module _ (layout logged : ℕ) where
  ended : (turns at n x st : ℕ) (s : List ℕ) → length s ≡ 0 → 0 < x → walk layout logged turns at n s ≡ bad_log x st → ⊥
  ended turns at n x st s z p e =
      let y : 0 ≡ x = ap (λ (l : Log). l.number) (walk_end layout logged turns at n s z ∙ e) in
      omega arith

  -- a record before bytes that are refused
  preceded : (s : List ℕ) (x k : ℕ) → record_refusal layout logged s ≡ 0 → RefusedAt layout logged x k (drop (extent_of layout s) s) → RefusedAt layout logged x (extent_of layout s + k) s
  preceded s x k q t =
      let w = extent_of layout s in
      record {
        before = take w s ∷ t.before;
        records = (first layout logged s q, t.records);
        rest = t.rest;
        some = t.some;
        same = sym (take-append-drop w s) ∙ ap (λ (u : List ℕ). take w s ++ u) t.same ∙ sym (append_assoc (take w s) (joined t.before) t.rest);
        cause = t.cause;
        at = omega (arith, t.at, length-append (take w s) (joined t.before), length-take-le w s (granted layout logged s q).whole);
      }

  tear : (turns at n x st : ℕ) (s : List ℕ) → length s ≤ turns → 0 < x → walk layout logged turns at n s ≡ bad_log x st
      → (k : ℕ) × RefusedAt layout logged x k s × (at + k ≡ st)
  tear zero at n x st s h p e = absurd (ended zero at n x st s (omega arith) p e)
  tear (suc turns) at n x st s h p e =
      by-case (eqb (length s) 0)
      (λ z. absurd (ended (suc turns) at n x st s (eqb-true (length s) 0 z) p e))
      (λ z.
      let l : 0 < length s = omega (arith, eqb-false (length s) 0 z) in
      by-case (eqb (record_refusal layout logged s) 0)
      (λ y.
      let q = eqb-true (record_refusal layout logged s) 0 y in
      let w = extent_of layout s in
      let f : suc turns - 1 ≡ turns = omega arith in
      let d = length-drop w s in
      let r = tear turns (at + w) (n + 1) x st (drop w s) (omega (arith, count_inside layout (values_counted layout s))) p (rw f at (walk-on layout logged (suc turns) at n s (omega arith) l q ∙ e)) in
      (w + r.0, preceded s x r.0 q r.1, omega (arith, r.2)))
      (λ y.
      let b = walk-stop layout logged (suc turns) at n s (record_refusal layout logged s) (omega arith) l refl (eqb-false (record_refusal layout logged s) 0 y) ∙ e in
      let c : at ≡ st = ap (λ (v : Log). v.start) b in
      (0, record { before = []; records = tt; rest = s; some = l; same = refl; cause = ap (λ (v : Log). v.number) b; at = refl }, omega arith)))

  broken : (rs : List (List ℕ)) (t : List ℕ) (turns at n x : ℕ) → AllRecords layout logged rs → 0 < length t → record_refusal layout logged t ≡ x → 0 < x → length (joined rs ++ t) ≤ turns
      → walk layout logged turns at n (joined rs ++ t) ≡ bad_log x (at + length (joined rs))
  broken [] t turns at n x a l q p h =
      sym (walk-stop layout logged turns at n t x (omega arith) l (sym q) (λ z. absurd (omega arith))) ∙ ap (bad_log x) (omega arith)
  broken (r ∷ rs) t turns at n x a l q p h =
      let m = joined rs ++ t in
      let o = a.0 in
      let g = granted layout logged r o.right in
      let f : extent_of layout (r ++ m) ≡ length r = extent-same layout r m g.counted ∙ sym o.long in
      let k = length-append r m in
      let j : (r ++ joined rs) ++ t ≡ r ++ m = append_assoc r (joined rs) t in
      let i : length (r ++ m) ≤ turns = rw j at h in
      let d : drop (extent_of layout (r ++ m)) (r ++ m) ≡ m = ap (λ (u : ℕ). drop u (r ++ m)) f ∙ drop-append_seam r m in
      ap (walk layout logged turns at n) j
      ∙ sym (walk-on layout logged turns at n (r ++ m) (omega (arith, g.counted)) (omega (arith, g.counted)) (refusal-more layout logged r m o.right))
      ∙ ap (walk layout logged (turns - 1) (at + extent_of layout (r ++ m)) (n + 1)) d
      ∙ broken rs t (turns - 1) (at + extent_of layout (r ++ m)) (n + 1) x a.1 l q p (omega (arith, g.counted))
      ∙ ap (bad_log x) (omega (arith, length-append r (joined rs)))

module _ (layout logged number start : ℕ) (s : List ℕ) (some : 0 < number) where
  abbrev Cause : Type 0
  Cause = ((511 < layout) × (number ≡ 47) × (start ≡ 0)) ⊎ ((layout ≤ 511) × RefusedAt layout logged number start s)

  abbrev Answer : Bool → Log
  Answer b = cond b (bad_log 47 0) (walk layout logged (length s) 0 0 s)

  to : (b : Bool) → ltb 511 layout ≡ b → Answer b ≡ bad_log number start → Cause
  to true h e = inl (ltb-true 511 layout h, sym (ap (λ (l : Log). l.number) e), sym (ap (λ (l : Log). l.start) e))
  to false h e =
      let g = tear layout logged (length s) 0 0 number start s (omega arith) some e in
      let z : g.0 ≡ start = omega (arith, g.2) in
      inr (ltb-false 511 layout h, rw z at g.1)

  from : Cause → Answer (ltb 511 layout) ≡ bad_log number start
  from (inl (h, e, z)) = rw (lt-ltb 511 layout h, e, z)
  from (inr (h, t)) =
      let z : 0 + length (joined t.before) ≡ start = omega (arith, t.at) in
      rw (le-ltb 511 layout h)
      (ap (λ (u : List ℕ). walk layout logged (length u) 0 0 u) t.same
      ∙ broken layout logged t.before t.rest (length (joined t.before ++ t.rest)) 0 0 number t.records t.some t.cause some (omega arith)
      ∙ ap (bad_log number) z)

pub logs-are-refused : LogsAreRefused
unfolding log_of
logs-are-refused layout logged number start s some =
    (to layout logged number start s some (ltb 511 layout) refl, from layout logged number start s some)
