-- The records of a list of starts by number: their starts, kinds and IDs as in the pool. Assumes nothing.
use mathlib.Core.Path.{◌≡◌, refl, sym, ap}
use mathlib.Core.List.{List}
use Prim.Native.Nat.{ℕ, zero, suc, ◌-◌, ◌<◌}
use native.Mathlib.Omega.{arith}
use borrow.Author.Tests.{eq-eqb, ne_eqb}
use lib.ListN.{length, get_or}
use Rattle.records.specs.Layout.{mark_code, mark_of, three}
use Rattle.pool.specs.Reading.{Entry, entry_at}
use Rattle.pool.specs.Walk.{entries_of}
use Rattle.pool.proofs.Starts.{entries-long, entry-at}
use Rattle.naming.specs.Records.{no_entry, record_at, start_at, id_at, kind_at}
use Rattle.naming.specs.Naming.{first_of, named, kind_of}
use Rattle.naming.specs.Lists.{id_in}
use Rattle.naming.proofs.First.{first-ext}
use Rattle.naming.proofs.Climb.{named-le}

module _ (p starts : List ℕ) where
  -- record i starts where the list says and ends where the next one starts
  pub record-read : (i : ℕ) → suc i < length starts → record_at (entries_of p starts) i ≡ entry_at p (get_or starts i 0) (get_or starts (suc i) 0)
  record-read i l = entry-at p starts no_entry i l

  pub start-read : (i : ℕ) → suc i < length starts → get_or starts i 0 ≡ start_at (entries_of p starts) i
  start-read i l = sym (ap (λ (e : Entry). e.start) (record-read i l))

  pub kind-is : (i : ℕ) → suc i < length starts → mark_code (mark_of (three p (get_or starts i 0))) ≡ kind_at (entries_of p starts) i
  kind-is i l = sym (ap (λ (e : Entry). e.kind) (record-read i l))

  pub id-read : (i : ℕ) → suc i < length starts → id_at (entries_of p starts) i ≡ id_in p starts i
  unfolding id_in
  id-read i l = ap (λ (e : Entry). e.id) (record-read i l)

  -- the kind of the record with a number from 1
  pub kind-read : (number : ℕ) → (number ≡ 0 → ⊥) → number < length starts → mark_code (mark_of (three p (get_or starts (number - 1) 0))) ≡ kind_of (entries_of p starts) number
  kind-read zero some l = absurd (some refl)
  kind-read (suc i) some l = let e : suc i - 1 ≡ i = omega arith in rw e (kind-is i l)

  -- a record that an ID names is listed
  pub named-listed : (x : ℕ) → 0 < length starts → named (entries_of p starts) x < length starts
  named-listed x h = omega (arith, named-le (entries_of p starts) x, entries-long p starts)

-- the first record with an ID, by the IDs that stand in the pool
module _ (p starts : List ℕ) (x : ℕ) where
  pub first_read : first_of (id_in p starts) x (length starts - 1) ≡ first_of (id_at (entries_of p starts)) x (length (entries_of p starts))
  first_read =
      rw (entries-long p starts)
      (first-ext (id_in p starts) (id_at (entries_of p starts)) x (length starts - 1) (λ (j : ℕ) (l : j < length starts - 1). sym (id-read p starts j (omega arith))))

  pub named-read : (x ≡ 65535 → ⊥) → first_of (id_in p starts) x (length starts - 1) ≡ named (entries_of p starts) x
  unfolding named
  named-read h = rw (ne_eqb x 65535 h) first_read

  pub named-null : x ≡ 65535 → 0 ≡ named (entries_of p starts) x
  unfolding named
  named-null e = rw (eq-eqb x 65535 e)
