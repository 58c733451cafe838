-- A pool that is accepted has been read, and it has a device. Assumes nothing.
use mathlib.Core.Path.{◌≡◌, refl}
use mathlib.Core.Bool.{false, cond}
use mathlib.Core.List.Memᴰ
use mathlib.Core.List.{List, [], ◌∷◌, Memᴰ}
use Prim.Native.Nat.{ℕ, zero, suc}
use native.Mathlib.Decide.{ℕ_discrete}
use native.Mathlib.Omega.{arith}
use borrow.Author.Tests.{ne_eqb}
use lib.Dec.{eqb}
use lib.ListN.{length}
use Rattle.records.specs.declared.Kind.TheVariants.{Dvc}
use Rattle.pool.specs.Answer.{Answer, answer}
use Rattle.pool.specs.Reading.{scan_of, entries_in, read_of}
use Rattle.faults.specs.Faults.{Fault, fault}
use Rattle.naming.specs.Records.{kind_at}
use Rattle.naming.specs.Naming.{first_of}
use Rattle.naming.proofs.First.{first-none}
use Rattle.rules.specs.Breach.{no_device, Is}
use Rattle.rules.specs.Table.{breaches_in, breaches_of}
use Rattle.rules.proofs.Listing.{breaches-listed}
use Rattle.checker.specs.Checking.{check_of, count_of}
use Rattle.queries.specs.Queries.{refusal_in, acceptance}

-- a refusal by the tests of its answer
pub refusal-number : (a : Answer) (n : ℕ) → n ≡ a.number → (n ≡ 0 → ⊥) → n ≡ refusal_in a
refusal-number a n e h = rw (← e, ne_eqb n 0 h)

pub refusal-faults : (a : Answer) → a.number ≡ 0 → (a.value ≡ 0 → ⊥) → 24 ≡ refusal_in a
refusal-faults a e h = rw (e, ne_eqb a.value 0 h)

pub refusal-none : (a : Answer) → a.number ≡ 0 → a.value ≡ 0 → 0 ≡ refusal_in a
refusal-none a e f = rw (e, f)

-- a list with a member is not empty
pub some-member : (f : Fault) (l : List Fault) → Memᴰ f l → length l ≡ 0 → ⊥
some-member f [] m e = Memᴰ.not-nil m
some-member f (x ∷ l) m e = omega arith

-- a refusal's number is not 0
unread : (faults n v : ℕ) → refusal_in (cond (eqb (suc n) 0) (answer 0 faults) (answer (suc n) v)) ≡ 0 → ⊥
unread faults n v h =
    let d : eqb (suc n) 0 ≡ false = ne_eqb (suc n) 0 (λ (z : suc n ≡ 0). omega arith) in
    let z : suc n ≡ 0 = rw (d, d) at h in
    omega arith

module _ (p : List ℕ) (room : ℕ) (ok : acceptance p room ≡ 0) where
  pub accepted-read : answer 0 (count_of p room) ≡ read_of p room
  unfolding acceptance check_of count_of
  accepted-read = go (read_of p room).number (read_of p room).value ok
    where
      go : (n v : ℕ) → refusal_in (cond (eqb n 0) (answer 0 (length (breaches_of p))) (answer n v)) ≡ 0 → answer 0 (cond (eqb n 0) v 0) ≡ answer n v
      go zero v h = refl
      go (suc n) v h = absurd (unread (length (breaches_of p)) n v h)

  pub accepted-clean : length (breaches_of p) ≡ 0
  unfolding acceptance check_of
  accepted-clean = go (read_of p room).number (read_of p room).value ok
    where
      none : (faults : ℕ) → refusal_in (answer 0 faults) ≡ 0 → Dec (faults ≡ 0) → faults ≡ 0
      none faults h (yes e) = e
      none faults h (no d) = let z : ◌≡◌ {A = ℕ} 24 0 = rw (ne_eqb faults 0 d) at h in absurd (omega arith)

      go : (n v : ℕ) → refusal_in (cond (eqb n 0) (answer 0 (length (breaches_of p))) (answer n v)) ≡ 0 → length (breaches_of p) ≡ 0
      go zero v h = none (length (breaches_of p)) h (ℕ_discrete (length (breaches_of p)) 0)
      go (suc n) v h = absurd (unread (length (breaches_of p)) n v h)

  -- without one, rule 10 would be breached
  pub accepted-device : first_of (kind_at (entries_in (scan_of p))) 1 (length (entries_in (scan_of p))) ≡ 0 → ⊥
  unfolding breaches_of
  accepted-device e =
      let es = entries_in (scan_of p) in
      some-member (fault 0 10 1) (breaches_in p es)
      (((breaches-listed p es).exact (fault 0 10 1)).1 (no_device (λ (i : ℕ) (h : Is es Dvc i). first-none (kind_at es) 1 (length es) e i h.there h.kind)))
      accepted-clean
