-- Any bytes consist of whole records only, or have an earliest bad record. Assumes nothing.
use mathlib.Core.Path.{◌≡◌, refl, sym, ap, ◌∙◌}
use mathlib.Core.List.{List, [], ◌∷◌, ◌++◌, append_assoc}
use Prim.Native.Nat.{ℕ, zero, suc, ◌+◌, ◌*◌, ◌≤◌}
use native.Mathlib.Omega.{arith}
use lib.ListN.{length, length-append}
use Rattle.wire.specs.Parts.{joined}
use Rattle.division.specs.Whole.{Whole}
use Rattle.division.specs.Division.{AllWhole, Division}
use Rattle.division.proofs.Records.{Seen, begins, unmarked, short, over, seen}
use Rattle.division.proofs.Unique.{shortest}
use Rattle.claims.specs.Reads.{listed, Bad, Bad.unmarked as bad-mark, Bad.cut as bad-cut, Bad.over as bad-over, Earliest}

pub data Sorted (p : List ℕ) : Type 0 where
  divided : (rs : List (List ℕ)) → AllWhole rs → p ≡ joined rs → Sorted p
  broken : (number place : ℕ) → Earliest p number place → Sorted p

-- bad from the start
bad-first : (p : List ℕ) (number place : ℕ) → Bad p number place → Sorted p
bad-first p number place b =
    broken number place (record { before = []; whole = tt; rest = p; same = refl; offset = place; bad = b; at = omega arith })

-- a whole record in front of sorted bytes
whole-first : (r rest : List ℕ) → Whole r → Sorted rest → Sorted (r ++ rest)
whole-first r rest w (divided rs v e) = divided (r ∷ rs) (w, v) (ap (λ (l : List ℕ). r ++ l) e)
whole-first r rest w (broken number place e) =
    broken number (length r + place)
    (record {
      before = r ∷ e.before;
      whole = (w, e.whole);
      rest = e.rest;
      same = ap (λ (l : List ℕ). r ++ l) e.same ∙ sym (append_assoc r (joined e.before) e.rest);
      offset = e.offset;
      bad = e.bad;
      at = omega (arith, e.at, length-append r (joined e.before));
    })

sorted-within : (bound : ℕ) (p : List ℕ) → length p ≤ bound → Sorted p
sorted-within zero [] h = divided [] tt refl
sorted-within zero (a ∷ p) h = absurd (omega arith)
sorted-within (suc bound) [] h = divided [] tt refl
sorted-within (suc bound) (a ∷ p) h = go (seen (a ∷ p)) (sorted-within bound)
  where
    go : Seen (a ∷ p) → ((q : List ℕ) → length q ≤ bound → Sorted q) → Sorted (a ∷ p)
    go (begins r rest e w) ih =
        let l : length (a ∷ p) ≡ length (r ++ rest) = ap length e in
        rw e (whole-first r rest w (ih rest (omega (arith, length-append r rest, shortest r w))))
    go (unmarked u) ih = bad-first (a ∷ p) 3 0 (bad-mark u)
    go (short c) ih = bad-first (a ∷ p) 4 0 (bad-cut (omega arith) c)
    go (over place w) ih = bad-first (a ∷ p) 5 place (bad-over w)

pub sorted : (p : List ℕ) → Sorted p
sorted p = sorted-within (length p) p (omega arith)

-- ---- whole records, their bytes and their entries
pub few : (rs : List (List ℕ)) → AllWhole rs → 12 * length rs ≤ length (joined rs)
few [] w = omega arith
few (r ∷ rs) w = omega (arith, shortest r w.0, few rs w.1, length-append r (joined rs))

pub divides : (p : List ℕ) (rs : List (List ℕ)) → 1 ≤ length p → AllWhole rs → p ≡ joined rs → Division p rs
divides p [] h w e = let z : length p ≡ 0 = ap length e in absurd (omega arith)
divides p (r ∷ rs) h w e = record { some = omega arith; whole = w; same = e }

pub listed-length : (rs : List (List ℕ)) (w : AllWhole rs) (at : ℕ) → length (listed rs w at) ≡ length rs
listed-length [] w at = refl
listed-length (r ∷ rs) w at = ap suc (listed-length rs w.1 (at + length r))
