-- What follows from reading a pool for checking it. Assumes nothing.
use mathlib.Core.Path.{◌≡◌, sym, ap, subst, ◌∙◌}
use mathlib.Core.List.{List}
use Prim.Native.Nat.{ℕ, ◌+◌, ◌<◌, ◌≤◌}
use native.Mathlib.Omega.{arith}
use borrow.Author.Tests.{ne_eqb}
use lib.Dec.{eqb}
use lib.ListN.{length, take}
use lib.Seq.{length-take-le}
use Rattle.pool.specs.Answer.{Answer, answer, refusal_answer}
use Rattle.pool.specs.declared.Refusal.{Refusal}
use Rattle.pool.specs.Reading.{Entry, scan_of, entries_in, read_of}
use Rattle.pool.specs.Walk.{entries_of, Divided, Listed}
use Rattle.pool.proofs.Judged.{refused-number}
use Rattle.pool.proofs.Starts.{entries-long}
use Rattle.faults.specs.Faults.{entry_for}
use Rattle.faults.specs.Emission.{Emits}
use Rattle.faults.specs.Completing.{Unnamed, Completed}
use Rattle.faults.proofs.Emission.{emits-written}
use Rattle.faults.proofs.Order.{found}
use Rattle.faults.proofs.Completing.{map-long}
use Rattle.rules.specs.Table.{breaches_in, breaches_of}
use Rattle.checker.specs.Checking.{check_of, count_of, reported, faults_after}

-- ---- what is listed of a pool that is read, and what is then answered

module _ (p : List ℕ) (room : ℕ) (starts : List ℕ) (n : ℕ) (e : answer 0 n ≡ read_of p room) (l : Listed p room starts) where
  listed : (n < length starts) × Divided p (take (n + 1) starts)
  unfolding Listed
  listed =
      let value : (read_of p room).value ≡ n = sym (ap (λ (a : Answer). a.value) e) in
      subst (λ (k : ℕ). (k < length starts) × Divided p (take (k + 1) starts)) value (l (sym (ap (λ (a : Answer). a.number) e)))

  -- the part of the list that the records take
  pub listed-room : n + 1 ≤ length starts
  listed-room = omega (arith, listed.0)

  pub listed-long : n + 1 ≡ length (take (n + 1) starts)
  listed-long = sym (length-take-le (n + 1) starts listed-room)

  pub listed-divides : Divided p (take (n + 1) starts)
  listed-divides = listed.1

  -- the faults that were written are of records of the pool
  pub unnamed-left : (faults laid : List ℕ) (k : ℕ) → Emits faults 0 (breaches_in p (entries_of p (take (n + 1) starts))) laid k → Unnamed (length (take (n + 1) starts)) laid k
  unfolding breaches_in
  unnamed-left faults laid k h = record {
    before = faults;
    faults = breaches_in p (entries_of p (take (n + 1) starts));
    laid = emits-written h;
    listed = λ f m. omega (arith, (found _ _ f m).below, entries-long p (take (n + 1) starts), listed-long);
  }

  pub counted : (faults laid after : List ℕ) (k : ℕ) → Emits faults 0 (breaches_in p (entries_of p (take (n + 1) starts))) laid k → Completed (entries_of p (take (n + 1) starts)) laid k after
      → (answer 0 k ≡ check_of p room) × (n ≡ count_of p room) × Listed p room starts × (after ≡ faults_after p room faults)
  unfolding check_of count_of faults_after reported breaches_of
  counted faults laid after k h c =
      let same : entries_of p (take (n + 1) starts) ≡ entries_in (scan_of p) = sym (ap entries_in listed-divides.divides) in
      let w = emits-written h in
      let full = c faults (breaches_in p (entries_of p (take (n + 1) starts))) w in
      (rw (← e) (ap (answer 0) (w.1 ∙ ap (λ (es : List Entry). length (breaches_in p es)) same)), rw (← e), l, rw (← e, ← same) full)

-- a refusal of reading is one of checking
pub passed_on : (p : List ℕ) (room : ℕ) (starts faults : List ℕ) (r : Refusal) → refusal_answer r ≡ read_of p room → Listed p room starts
    → (refusal_answer r ≡ check_of p room) × (0 ≡ count_of p room) × Listed p room starts × (faults ≡ faults_after p room faults)
unfolding check_of count_of faults_after
passed_on p room starts faults r e l =
    let d : eqb (refusal_answer r).number 0 ≡ _ = ne_eqb (refusal_answer r).number 0 (refused-number r) in
    (rw (← e, d), rw (← e, d), l, rw (← e, d))

-- each fault is handed out
pub reported-long : (p : List ℕ) → length (reported p) ≡ length (breaches_of p)
unfolding reported
reported-long p = map-long (entry_for (entries_in (scan_of p))) (breaches_of p)
