-- If all IDs are distinct, none is 65535 and a device has 0, every other record has an ID of its own. Assumes nothing.
use mathlib.Core.Path.{◌≡◌, sym, ◌∙◌}
use mathlib.Core.List.{List}
use Prim.Native.Nat.{ℕ, suc, ◌-◌, ◌<◌}
use native.Mathlib.Omega.{arith}
use borrow.Author.Tests.{eqb-true}
use lib.ListN.{length}
use Rattle.pool.specs.Walk.{entries_of}
use Rattle.pool.proofs.Starts.{entries-long}
use Rattle.naming.specs.Records.{id_at}
use Rattle.naming.specs.Naming.{first_of, kind_of}
use Rattle.naming.specs.Lists.{id_in}
use Rattle.naming.specs.Chained.{Distinct, Owned}
use Rattle.naming.proofs.First.{first-none}
use Rattle.naming.proofs.Starts.{id-read, first_read}
use Rattle.naming.proofs.Chained.{opens-first}

module _ (p starts : List ℕ) (distinct : Distinct p starts) where
  -- a record is the first with its ID
  first-own : (i : ℕ) → i < length starts - 1 → first_of (id_in p starts) (id_in p starts i) (length starts - 1) ≡ suc i
  first-own i l = eqb-true _ _ (sym (opens-first (id_in p starts) i (length starts - 1) l) ∙ distinct i l)

  pub owned : first_of (id_in p starts) 65535 (length starts - 1) ≡ 0 → kind_of (entries_of p starts) (first_of (id_in p starts) 0 (length starts - 1)) ≡ 1 → Owned (entries_of p starts)
  owned none device i l other = (null, last, first)
    where
      inside : i < length starts - 1
      inside = omega (arith, entries-long p starts)

      read : id_at (entries_of p starts) i ≡ id_in p starts i
      read = id-read p starts i (omega (arith, inside))

      null : id_at (entries_of p starts) i ≡ 0 → ⊥
      null e =
          let zero : first_of (id_in p starts) 0 (length starts - 1) ≡ suc i = rw (sym read ∙ e) at (first-own i inside) in
          other (rw zero at device)

      last : id_at (entries_of p starts) i ≡ 65535 → ⊥
      last e = first-none (id_in p starts) 65535 (length starts - 1) none i inside (sym read ∙ e)

      first : first_of (id_at (entries_of p starts)) (id_at (entries_of p starts) i) (length (entries_of p starts)) ≡ suc i
      first = sym (first_read p starts (id_at (entries_of p starts) i)) ∙ rw read (first-own i inside)
