-- What reading answers is what the division of the pool says. Assumes nothing.
use mathlib.Core.Path.{◌≡◌, refl, ap, ◌∙◌, subst}
use mathlib.Core.Bool.{cond}
use mathlib.Core.List.{List}
use Prim.Native.Nat.{ℕ, zero, suc, ◌≤◌, ◌<◌}
use native.Mathlib.Omega.{arith}
use native.Mathlib.Decide.{dec_le}
use borrow.Author.Tests.{lt-ltb, le-ltb}
use lib.Dec.{ltb}
use lib.ListN.{length}
use Rattle.wire.specs.Parts.{joined}
use Rattle.division.specs.Division.{Division, Divides}
use Rattle.pool.specs.Answer.{Answer, answer}
use Rattle.pool.specs.Reading.{records, scan_of, entries_in, read_of}
use Rattle.pool.proofs.Judged.{read-empty, read-long, read_walk}
use Rattle.claims.specs.Reads.{listed, Bad, Bad.unmarked as bad-mark, Bad.cut as bad-cut, Bad.over as bad-over, Earliest, Sized, Reads}
use Rattle.claims.proofs.Filled.{filled}
use Rattle.claims.proofs.Passing.{scan-whole, scan-bad}
use Rattle.claims.proofs.Sorting.{Sorted, divided, broken, sorted, few, divides, listed-length}

-- parts of a pool, so many, and how that compares with the room
abbrev Parts : List ℕ → ℕ → Type 0 → Type 0
Parts p n compared = Sized p × ((d : Divides p) × (length d.parts ≡ n) × compared)

scan-parts : (p : List ℕ) (rs : List (List ℕ)) (d : Division p rs) → scan_of p ≡ records (listed rs d.whole 0)
scan-parts p rs d = ap scan_of d.same ∙ scan-whole rs d.whole

-- what an answer's number, from 0 on, and its value say of the pool
abbrev Means : List ℕ → ℕ → ℕ → ℕ → Type 0
Means p room zero n = Parts p n (n ≤ room)
Means p room (suc zero) v = length p ≡ 0
Means p room (suc (suc zero)) v = 65535 < length p
Means p room (suc (suc (suc zero))) v = Sized p × Earliest p 3 v
Means p room (suc (suc (suc (suc zero)))) v = Sized p × Earliest p 4 v
Means p room (suc (suc (suc (suc (suc zero))))) v = Sized p × Earliest p 5 v
Means p room (suc (suc (suc (suc (suc (suc zero)))))) v = ⊥
Means p room (suc (suc (suc (suc (suc (suc (suc zero))))))) n = Parts p n (room < n)
Means p room (suc (suc (suc (suc (suc (suc (suc (suc k)))))))) v = ⊥

module _ (p : List ℕ) (room : ℕ) where
  -- ---- what each kind of pool is answered
  read-parts : Sized p → (rs : List (List ℕ)) → Division p rs → read_of p room ≡ cond (ltb room (length rs)) (answer 7 (length rs)) (answer 0 (length rs))
  read-parts s rs d =
      let l : length p ≡ length (joined rs) = ap length d.same in
      let most : length rs ≤ 8192 = omega (arith, few rs d.whole) in
      read_walk p room s.0 s.1
      ∙ rw (scan-parts p rs d, listed-length rs d.whole 0, le-ltb 8192 (length rs) most)

  read_fits : (n : ℕ) → Parts p n (n ≤ room) → read_of p room ≡ answer 0 n
  read_fits n (s, d) = rw (read-parts s d.0.parts d.0.division, d.1, le-ltb room n d.2)

  read_short : (n : ℕ) → Parts p n (room < n) → read_of p room ≡ answer 7 n
  read_short n (s, d) = rw (read-parts s d.0.parts d.0.division, d.1, lt-ltb room n d.2)

  read-bad : (number place : ℕ) → Sized p × Earliest p number place → read_of p room ≡ answer number place
  read-bad number place (s, e) =
      read_walk p room s.0 s.1 ∙ rw (scan-bad p number place e)

  -- ---- what each answer says
  Said : Answer → Type 0
  Said a = Means p room a.number a.value

  bad-means : (number place : ℕ) → Sized p → Earliest p number place → Means p room number place
  bad-means number place s e = go number e.offset e.bad e
    where
      go : {q : List ℕ} (n offset : ℕ) → Bad q n offset → Earliest p n place → Means p room n place
      go n offset (bad-mark u) x = (s, x)
      go n offset (bad-cut o c) x = (s, x)
      go n offset (bad-over w) x = (s, x)

  said : Said (read_of p room)
  unfolding Said
  said = empty (dec_le 1 (length p)) (dec_le (length p) 65535)
    where
      compare : Sized p → (rs : List (List ℕ)) → Division p rs → Dec (length rs ≤ room) → Said (read_of p room)
      compare s rs d (yes h) = let m : Parts p (length rs) (length rs ≤ room) = (s, (record { parts = rs; division = d }, refl, h)) in rw (read_fits (length rs) m) m
      compare s rs d (no h) = let m : Parts p (length rs) (room < length rs) = (s, (record { parts = rs; division = d }, refl, omega arith)) in rw (read_short (length rs) m) m

      sized : Sized p → Sorted p → Said (read_of p room)
      sized s (divided rs w e) = compare s rs (divides p rs s.0 w e) (dec_le (length rs) room)
      sized s (broken number place e) = rw (read-bad number place (s, e)) (bad-means number place s e)

      empty : Dec (1 ≤ length p) → Dec (length p ≤ 65535) → Said (read_of p room)
      empty (yes a) (yes b) = sized (a, b) (sorted p)
      empty (yes a) (no b) = let h : 65535 < length p = omega arith in rw (read-long p room h) h
      empty (no a) b = let h : length p ≡ 0 = omega arith in rw (read-empty p room h) h

  means : (number value : ℕ) → read_of p room ≡ answer number value → Means p room number value
  unfolding Said
  means number value e = subst Said e said

-- a refusal of 3 to 5 says that a record is bad
bad-meant : (p : List ℕ) (room number place : ℕ) → 3 ≤ number → number ≤ 5 → Means p room number place → Sized p × Earliest p number place
bad-meant p room zero v lo hi m = absurd (omega arith)
bad-meant p room (suc zero) v lo hi m = absurd (omega arith)
bad-meant p room (suc (suc zero)) v lo hi m = absurd (omega arith)
bad-meant p room (suc (suc (suc zero))) v lo hi m = m
bad-meant p room (suc (suc (suc (suc zero)))) v lo hi m = m
bad-meant p room (suc (suc (suc (suc (suc zero))))) v lo hi m = m
bad-meant p room (suc (suc (suc (suc (suc (suc k)))))) v lo hi m = absurd (omega arith)

pub reading : (p : List ℕ) (room : ℕ) → Reads p room
reading p room =
    record {
      read = λ n. (means p room 0 n, read_fits p room n);
      entries = λ rs d. ap entries_in (scan-parts p rs d);
      table = λ t. filled p t (λ n. (means p (length t) 0 n, read_fits p (length t) n)) (λ rs d. ap entries_in (scan-parts p rs d));
      empty = (means p room 1 0, read-empty p room);
      long = (means p room 2 0, read-long p room);
      refused = λ number place h. (λ e. bad-meant p room number place h.0 h.1 (means p room number place e), read-bad p room number place);
      many = means p room 6;
      short = λ n. (means p room 7 n, read_short p room n);
    }
