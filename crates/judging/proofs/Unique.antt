-- An accepted pool has no breach, so no element number is used twice and no list has a DDI twice. Assumes nothing.
use mathlib.Core.Path.{◌≡◌, sym}
use mathlib.Core.List.{List}
use Prim.Native.Nat.{ℕ, suc, ◌+◌, ◌<◌}
use native.Mathlib.Decide.{dec_lt}
use native.Mathlib.Omega.{arith}
use Rattle.records.specs.declared.Kind.TheVariants.{Det}
use Rattle.views.specs.Fields.{element_of}
use Rattle.pool.specs.Reading.{scan_of, entries_in}
use Rattle.faults.specs.Faults.{fault}
use Rattle.naming.specs.Records.{start_at}
use Rattle.rules.specs.Breach.{Is, Breach, same_number, same_ddi}
use Rattle.rules.specs.Table.{breaches_in, breaches_of}
use Rattle.rules.proofs.Listing.{breaches-listed}
use Rattle.rules.proofs.Doubles.{tag-ddi}
use Rattle.queries.specs.Queries.{acceptance}
use Rattle.queries.proofs.Accepted.{some-member, accepted-clean}
use Rattle.judging.specs.One.{Element, Lists, AcceptedNamesOne}

-- neither is below the other
level : (i j : ℕ) → (i < j → ⊥) → (j < i → ⊥) → i ≡ j
level i j a b = go (dec_lt i j) (dec_lt j i)
  where
    go : Dec (i < j) → Dec (j < i) → i ≡ j
    go (yes h) k = absurd (a h)
    go (no h) (yes k) = absurd (b k)
    go (no h) (no k) = omega arith

module _ (p : List ℕ) (room : ℕ) (ok : acceptance p room ≡ 0) where
  clean : (n rule item : ℕ) → Breach p (entries_in (scan_of p)) n rule item → ⊥
  unfolding breaches_of
  clean n rule item b =
      some-member (fault n rule item) (breaches_in p (entries_in (scan_of p)))
      (((breaches-listed p (entries_in (scan_of p))).exact (fault n rule item)).1 b)
      (accepted-clean p room ok)

  is : (i : ℕ) → Element (entries_in (scan_of p)) i → Is (entries_in (scan_of p)) Det i
  is i h = record { there = h.there; kind = h.kind }

  one-element : (i j : ℕ) → Element (entries_in (scan_of p)) i → Element (entries_in (scan_of p)) j
      → (element_of p (start_at (entries_in (scan_of p)) i)).number ≡ (element_of p (start_at (entries_in (scan_of p)) j)).number → i ≡ j
  one-element i j hi hj e =
      level i j
      (λ (l : i < j). clean (suc j) 8 1 (same_number (is j hj) l (is i hi) e))
      (λ (l : j < i). clean (suc i) 8 1 (same_number (is i hi) l (is j hj) (sym e)))

  one_entry : (i m n ddi : ℕ) → Element (entries_in (scan_of p)) i → Lists p (entries_in (scan_of p)) i m ddi → Lists p (entries_in (scan_of p)) i n ddi → m ≡ n
  one_entry i m n ddi h a b =
      let es = entries_in (scan_of p) in
      level m n
      (λ (l : m < n). clean (suc i) 12 (2 + n) (same_ddi (is i h) b.there l (tag-ddi p es i m ddi a.names) (tag-ddi p es i n ddi b.names)))
      (λ (l : n < m). clean (suc i) 12 (2 + m) (same_ddi (is i h) a.there l (tag-ddi p es i n ddi b.names) (tag-ddi p es i m ddi a.names)))

pub accepted-one : AcceptedNamesOne
accepted-one p room ok = record { element = one-element p room ok; entry = one_entry p room ok }
