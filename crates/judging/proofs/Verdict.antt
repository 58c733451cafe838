-- What a judgement by the records of a pool means for the pool. Assumes nothing.
use mathlib.Core.Path.{◌≡◌, refl, sym, ap, ◌∙◌}
use mathlib.Core.Bool.{cond}
use mathlib.Core.List.{List}
use Prim.Native.Nat.{ℕ, ◌+◌, ◌≤◌, ◌<◌}
use native.Mathlib.Omega.{arith}
use native.Mathlib.Decide.{ℕ_discrete}
use borrow.Author.Tests.{eq-eqb, ne_eqb, lt-ltb, le-ltb}
use lib.Dec.{eqb}
use lib.IntN.{ℤ}
use lib.ListN.{length, take}
use Rattle.pool.specs.Answer.{Answer, answer}
use Rattle.pool.specs.Reading.{Entry, scan_of, entries_in, read_of}
use Rattle.pool.specs.Walk.{entries_of, Divided, Listed}
use Rattle.faults.specs.Emission.{Emits}
use Rattle.rules.specs.Table.{breaches_in, breaches_of}
use Rattle.checker.specs.Checking.{check_of, count_of}
use Rattle.queries.specs.Queries.{refusal_in, acceptance}
use Rattle.judging.specs.Judging.{error_of, judge_number, judge_error, judge_answer}
use Rattle.judging.specs.Parts.{judged_among, judged_count}

-- ---- by the records

module _ (p : List ℕ) (es : List Entry) (command element ddi : ℕ) (value : ℤ) (b c : List ℕ) (n : ℕ) (emits : Emits b 0 (breaches_in p es) c n) where
  pub faulty : (n ≡ 0 → ⊥) → answer 24 0 ≡ judged_among p es command element ddi value
  unfolding judged_among
  faulty h =
      let some : length (breaches_in p es) ≡ 0 → ⊥ = λ (z : length (breaches_in p es) ≡ 0). h (omega (arith, emits.counted)) in
      rw (ne_eqb (length (breaches_in p es)) 0 some)

  pub clean : n ≡ 0 → (error : ℕ) → error ≡ error_of p es command element ddi value → answer 0 error ≡ judged_among p es command element ddi value
  unfolding judged_among
  clean h error e =
      let none : length (breaches_in p es) ≡ 0 = omega (arith, emits.counted) in
      rw (eq-eqb (length (breaches_in p es)) 0 none) (ap (answer 0) e)

-- ---- by the pool

module _ (p : List ℕ) (room command element ddi : ℕ) (value : ℤ) where
  -- 32, before the pool is looked at
  pub too_large : 4095 < element → (answer 32 0 ≡ judge_answer p room command element ddi value) × (0 ≡ judged_count p room element)
  unfolding judge_number judge_error judged_count
  too_large h = rw (lt-ltb 4095 element h) (refl, refl)

  module _ (small : element ≤ 4095) where
    -- reading refuses
    module _ (number : ℕ) (e : number ≡ (read_of p room).number) (h : number ≡ 0 → ⊥) where
      refused : acceptance p room ≡ number
      unfolding acceptance check_of
      refused = go (read_of p room).number (read_of p room).value (sym e)
        where
          go : (n v : ℕ) → n ≡ number → refusal_in (cond (eqb n 0) (answer 0 (length (breaches_of p))) (answer n v)) ≡ number
          go n v q = rw (q, ne_eqb number 0 h, ne_eqb number 0 h)

      none : count_of p room ≡ 0
      unfolding count_of
      none = rw (← e, ne_eqb number 0 h)

      pub unread : (answer number 0 ≡ judge_answer p room command element ddi value) × (0 ≡ judged_count p room element)
      unfolding judge_number judge_error judged_count
      unread = rw (le-ltb 4095 element small, refused, none, ne_eqb number 0 h) (refl, refl)

    -- the records of a pool that is read are judged
    module _ (starts : List ℕ) (count : ℕ) (read : answer 0 count ≡ read_of p room) (listed : Listed p room starts) where
      both : (count < length starts) × Divided p (take (count + 1) starts)
      unfolding Listed
      both =
          let same : (read_of p room).value ≡ count = sym (ap (λ (a : Answer). a.value) read) in
          rw same at (listed (sym (ap (λ (a : Answer). a.number) read)))

      pub among-room : count + 1 ≤ length starts
      among-room = omega (arith, both.0)

      pub among-divided : Divided p (take (count + 1) starts)
      among-divided = both.1

      all : entries_of p (take (count + 1) starts) ≡ entries_in (scan_of p)
      all = sym (ap entries_in among-divided.divides)

      accepted : acceptance p room ≡ cond (eqb (length (breaches_of p)) 0) 0 24
      unfolding acceptance check_of
      accepted = rw (← read)

      pub judged-all : (r : Answer) → r ≡ judged_among p (entries_of p (take (count + 1) starts)) command element ddi value
          → (r ≡ judge_answer p room command element ddi value) × (count ≡ judged_count p room element)
      unfolding judge_number judge_error judged_count count_of breaches_of judged_among
      judged-all r h =
          let g : r ≡ judged_among p (entries_in (scan_of p)) command element ddi value = rw all at h in
          rw (le-ltb 4095 element small, accepted) (g ∙ go (ℕ_discrete faults 0), rw (← read))
        where
          faults : ℕ
          faults = length (breaches_in p (entries_in (scan_of p)))

          error : ℕ
          error = error_of p (entries_in (scan_of p)) command element ddi value

          go : Dec (faults ≡ 0) → cond (eqb faults 0) (answer 0 error) (answer 24 0) ≡ answer (cond (eqb faults 0) 0 24) (cond (eqb (cond (eqb faults 0) 0 24) 0) error 0)
          go (yes z) = rw (eq-eqb faults 0 z)
          go (no z) = rw (ne_eqb faults 0 z)
