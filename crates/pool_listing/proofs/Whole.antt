-- The whole listing from what checking answers. Assumes nothing.
use mathlib.Core.Path.{◌≡◌, refl, sym, ap, subst, ◌∙◌}
use mathlib.Core.List.{List, ◌++◌}
use mathlib.Core.Bool.{Bool, true, false, cond}
use Prim.Native.Nat.{ℕ, ◌+◌, ◌≤◌, ◌<◌}
use native.Mathlib.Omega.{arith}
use borrow.Author.Tests.{eq-eqb, ne_eqb, eqb-true}
use lib.Dec.{eqb}
use lib.ListN.{length, take}
use lib.Seq.{length-take-le}
use Rattle.pool.specs.Answer.{answer}
use Rattle.pool.specs.Reading.{Entry, scan_of, entries_in, read_of}
use Rattle.pool.specs.Walk.{entries_of, Divided, Listed}
use Rattle.pool.proofs.Judged.{read-counted}
use Rattle.rules.specs.Table.{breaches_of}
use Rattle.checker.specs.Checking.{check_of, count_of, reported, faults_after}
use Rattle.checker.proofs.Counting.{reported-long}
use Rattle.listing.specs.Lines.{count_line, refused_line}
use Rattle.pool_listing.specs.Listing.{record_lines, findings, read_listing, listing_of}
use Rattle.pool_listing.specs.Parts.{Held}

-- a refusal is one line
pub refused : (p : List ℕ) (n v : ℕ) → (n ≡ 0 → ⊥) → n ≡ (check_of p 2048).number → v ≡ (check_of p 2048).value → refused_line n v ≡ listing_of p
unfolding listing_of
refused p n v h e f =
    let never : (check_of p 2048).number ≡ 0 → ⊥ = λ z. h (e ∙ z) in
    rw (ne_eqb (check_of p 2048).number 0 never) (ap (λ (k : ℕ). refused_line k v) e ∙ ap (refused_line (check_of p 2048).number) f)

-- a pool that checking answers 0 for is read
read : (p : List ℕ) → (check_of p 2048).number ≡ 0 → (read_of p 2048).number ≡ 0
unfolding check_of
read p z = go (eqb (read_of p 2048).number 0) refl z
  where
    go : (b : Bool) → eqb (read_of p 2048).number 0 ≡ b → (cond b (answer 0 (length (breaches_of p))) (read_of p 2048)).number ≡ 0 → (read_of p 2048).number ≡ 0
    go true e z = eqb-true (read_of p 2048).number 0 e
    go false e z = z

module _ (p starts : List ℕ) (z : (check_of p 2048).number ≡ 0) (listed : Listed p 2048 starts) (n : ℕ) (count : n ≡ count_of p 2048) where
  value : (read_of p 2048).value ≡ n
  unfolding count_of
  value = sym (count ∙ rw (eq-eqb (read_of p 2048).number 0 (read p z)))

  split : (n < length starts) × Divided p (take (n + 1) starts)
  unfolding Listed
  split = subst (λ (k : ℕ). (k < length starts) × Divided p (take (k + 1) starts)) value (listed (read p z))

  pub room : n + 1 ≤ length starts
  room = omega (arith, split.0)

  pub long : n + 1 ≡ length (take (n + 1) starts)
  long = sym (length-take-le (n + 1) starts room)

  pub divided : Divided p (take (n + 1) starts)
  divided = split.1

  answered : answer 0 n ≡ read_of p 2048
  answered = ap (answer 0) (sym value) ∙ ap (λ (k : ℕ). answer k (read_of p 2048).value) (sym (read p z))

  pub few : n ≤ 2048
  few = (read-counted p 2048 n answered).fits

  entries : entries_of p (take (n + 1) starts) ≡ entries_in (scan_of p)
  entries = sym (ap entries_in divided.divides)

  -- the parts are the listing
  pub whole : count_line n ++ record_lines (entries_of p (take (n + 1) starts)) ++ findings (reported p) ≡ listing_of p
  unfolding listing_of read_listing
  whole =
      rw (eq-eqb (check_of p 2048).number 0 z)
      (ap (λ (k : ℕ). count_line k ++ record_lines (entries_of p (take (n + 1) starts)) ++ findings (reported p)) (sym (read-counted p 2048 n answered).count)
      ∙ ap (λ (es : List Entry). count_line (length (entries_in (scan_of p))) ++ record_lines es ++ findings (reported p)) entries)

  -- the faults that checking counts and the buffer holds
  pub found : (v : ℕ) → v ≡ (check_of p 2048).value → v ≡ length (reported p)
  unfolding check_of
  found v e = e ∙ rw (eq-eqb (read_of p 2048).number 0 (read p z)) (sym (reported-long p))

  pub held : (before after : List ℕ) → length before ≡ 5120 → after ≡ faults_after p 2048 before → Held after (reported p)
  unfolding faults_after
  held before after l e = record { before = before; long = l; is = e ∙ rw (eq-eqb (read_of p 2048).number 0 (read p z)) }
