-- Checking by the division and the breaches: the pool is read, its records are those of the division, and the breach list is that of these records.
-- Assumes nothing.
use mathlib.Core.Path.{◌≡◌, refl, ap, ◌∙◌}
use mathlib.Core.Logic.{inl, inr}
use mathlib.Core.List.{List, ◌++◌, map}
use Prim.Native.Nat.{ℕ, ◌*◌, ◌/◌, ◌≤◌}
use native.Mathlib.Omega.{arith}
use native.Mathlib.Decide.{dec_le}
use native.Mathlib.Nat.{zero-add}
use lib.ListN.{length, take, drop}
use lib.Seq.{sets, sets-eq, take_all, length-take-le}
use Rattle.faults.specs.Faults.{FaultEntry, entry_for, width, flat, written}
use Rattle.faults.proofs.Completing.{flat-long}
use Rattle.pool.specs.Answer.{answer}
use Rattle.pool.specs.Reading.{read_of, scan_of, entries_in}
use Rattle.rules.specs.Table.{breaches_in, breaches_of}
use Rattle.rules.proofs.Listing.{breaches-listed}
use Rattle.checker.specs.Checking.{check_of, reported, faults_after}
use Rattle.claims.specs.Reads.{listed, Reads}
use Rattle.claims.specs.Checks.{Holds, Checks}
use Rattle.claims.proofs.Verdict.{reading}

laid-over : (xs b : List ℕ) (n : ℕ) → length xs ≡ n → n ≤ length b → sets b 0 xs ≡ xs ++ drop n b
laid-over xs b n l h = sets-eq xs b 0 (omega (arith, l, h)) ∙ rw (zero-add (length xs), l)

-- the first faults, as many as fit
holds : (before : List ℕ) (fs : List FaultEntry) → Holds before fs (written before fs)
unfolding written
holds before fs = go (dec_le (length before / width) (length fs))
  where
    go : Dec (length before / width ≤ length fs) → Holds before fs (sets before 0 (flat (take (length before / width) fs)))
    go (yes h) =
        let n = length before / width in
        let k : length (flat (take n fs)) ≡ width * n = flat-long (take n fs) ∙ ap (λ (m : ℕ). width * m) (length-take-le n fs h) in
        record { count = n; some = h; fits = omega arith; most = inr (omega arith); same = laid-over (flat (take n fs)) before (width * n) k (omega arith) }
    go (no h) =
        let l : length fs ≤ length before / width = omega (arith, h) in
        let e : take (length before / width) fs ≡ fs = take_all (length before / width) fs l in
        let a : take (length fs) fs ≡ fs = take_all (length fs) fs (omega arith) in
        record {
          count = length fs;
          some = omega arith;
          fits = omega (arith, l);
          most = inl refl;
          same = rw (e, a) (laid-over (flat fs) before (width * length fs) (flat-long fs) (omega (arith, l)));
        }

pub checking : Checks
unfolding check_of reported faults_after breaches_of
checking p rs d room sized fits =
    let r : Reads p room = reading p room in
    let read : read_of p room ≡ answer 0 (length rs) = (r.read (length rs)).1 (sized, (record { parts = rs; division = d }, refl, fits)) in
    let same : entries_in (scan_of p) ≡ listed rs d.whole 0 = r.entries rs d in
    record {
      faults = breaches_in p (listed rs d.whole 0);
      exact = (breaches-listed p (listed rs d.whole 0)).exact;
      ascending = (breaches-listed p (listed rs d.whole 0)).ascending;
      count = rw (read, same);
      buffer = λ before. rw (read, same) (holds before (map (entry_for (listed rs d.whole 0)) (breaches_in p (listed rs d.whole 0))));
    }
