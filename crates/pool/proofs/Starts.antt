-- The records of a list of starts. Assumes nothing.
use mathlib.Core.Path.{◌≡◌, refl, sym, ap, subst, ◌∙◌}
use mathlib.Core.List.{List, [], ◌∷◌, ◌++◌}
use Prim.Native.Nat.{ℕ, zero, suc, ◌+◌, ◌-◌, ◌≤◌, ◌<◌}
use native.Mathlib.Nat.{not-suc-le-zero}
use native.Mathlib.Decide.{dec_lt}
use native.Mathlib.Omega.{arith}
use lib.Dec.{leb}
use lib.ListN.{length, get_or}
use Rattle.std.specs.Prelude.{Option, Some, None, Ok}
use Rattle.records.specs.Layout.{mark_code, mark_of, three}
use Rattle.records.specs.Extents.{marked_end, extent_of}
use Rattle.records.specs.declared.Kind.TheVariants.{Dvc, Det, Dpd, Dpt, Dvp}
use Rattle.records.specs.declared.Kind.{Kind}
use Rattle.records.specs.declared.Flaw.TheVariants.{NoMark, Cut}
use Rattle.records.proofs.Range.{refused-ends, guarded}
use Rattle.pool.specs.Reading.{Entry, entry_at, scan_of}
use Rattle.pool.specs.Walk.{entries_after, entries_of, Divided}
use Rattle.pool.proofs.Steps.{Remaining, next_of, none_left, few-records}

from-long : (p : List ℕ) (at : ℕ) (rest : List ℕ) → length (entries_after p at rest) ≡ length rest
unfolding entries_after
from-long p at [] = refl
from-long p at (end ∷ rest) = ap suc (from-long p end rest)

from_at : (p : List ℕ) (d : Entry) (at : ℕ) (rest : List ℕ) (i : ℕ) → i < length rest → get_or (entries_after p at rest) i d ≡ entry_at p (get_or (at ∷ rest) i 0) (get_or rest i 0)
unfolding entries_after
from_at p d at [] i h = absurd (not-suc-le-zero h)
from_at p d at (end ∷ rest) zero h = refl
from_at p d at (end ∷ rest) (suc i) h = from_at p d end rest i (omega arith)

-- there is one start more than there are records
pub entries-long : (p starts : List ℕ) → length (entries_of p starts) ≡ length starts - 1
unfolding entries_of
entries-long p [] = refl
entries-long p (at ∷ rest) = let l = from-long p at rest in omega arith

-- record i starts where the list says and ends where the next one starts
pub entry-at : (p starts : List ℕ) (d : Entry) (i : ℕ) → suc i < length starts → get_or (entries_of p starts) i d ≡ entry_at p (get_or starts i 0) (get_or starts (suc i) 0)
unfolding entries_of
entry-at p [] d i h = absurd (not-suc-le-zero h)
entry-at p (at ∷ rest) d i h = from_at p d at rest i (omega arith)

-- one start more is one record more
from_more : (p : List ℕ) (a : ℕ) (l : List ℕ) (at end : ℕ) → entries_after p a ((l ++ at ∷ []) ++ end ∷ []) ≡ entries_after p a (l ++ at ∷ []) ++ entry_at p at end ∷ []
unfolding entries_after
from_more p a [] at end = refl
from_more p a (x ∷ l) at end = ap (λ (es : List Entry). entry_at p a x ∷ es) (from_more p x l at end)

pub entries-more : (p l : List ℕ) (at end : ℕ) → entries_of p ((l ++ at ∷ []) ++ end ∷ []) ≡ entries_of p (l ++ at ∷ []) ++ entry_at p at end ∷ []
unfolding entries_of entries_after
entries-more p [] at end = refl
entries-more p (x ∷ l) at end = from_more p x l at end

-- a record from a place up to another: a whole one, which lies in the pool
pub record Stretch (p : List ℕ) (at end : ℕ) : Type 0 where
  pub ends : extent_of p at ≡ Ok end
  pub later : at + 12 ≤ end
  pub within : end ≤ length p

-- every record that a walk reads is such a one
record Read (p : List ℕ) (e : Entry) : Type 0 where
  at : ℕ
  end : ℕ
  is : e ≡ entry_at p at end
  stretch : Stretch p at end

remaining-read : (p : List ℕ) (d : Entry) (rs : List Entry) (at : ℕ) → Remaining p at rs → (i : ℕ) → i < length rs → Read p (get_or rs i d)
remaining-read p d [] at m i l = absurd (not-suc-le-zero l)
remaining-read p d (e ∷ es) at m i l = go (dec_lt at (length p)) i l (remaining-read p d es)
  where
    go : Dec (at < length p) → (i : ℕ) → i < suc (length es) → ((next : ℕ) → Remaining p next es → (j : ℕ) → j < length es → Read p (get_or es j d)) → Read p (get_or (e ∷ es) i d)
    go (yes h) zero l rest =
        let x = next_of p at (e ∷ es) h m in
        record {
          at = at;
          end = x.end;
          is = cc x.first;
          stretch = record { ends = x.ends; later = x.later; within = x.within };
        }
    go (yes h) (suc j) l rest =
        let x = next_of p at (e ∷ es) h m in
        let same : x.left ≡ es = cc x.first in
        rest x.end (subst (Remaining p x.end) same x.rest) j (omega arith)
    go (no h) i l rest =
        let none : e ∷ es ≡ [] = none_left p at (e ∷ es) (omega arith) m in
        let z : ◌≡◌ {A = ℕ} 0 1 = cc in
        absurd (omega arith)

module _ (p starts : List ℕ) (h : Divided p starts) where
  -- a pool of at most 65,535 bytes has at most 5,461 records
  pub starts-few : length starts ≤ 5462
  starts-few = omega (arith, few-records p (entries_of p starts) h.divides, entries-long p starts, h.short)

  -- each record is whole, and ends where the next one starts
  pub starts-stretch : (i : ℕ) → suc i < length starts → Stretch p (get_or starts i 0) (get_or starts (suc i) 0)
  unfolding scan_of
  starts-stretch i l =
      let none = entry_at p 0 0 in
      let r =
      remaining-read p none (entries_of p starts) 0 (record { turns = length p; enough = omega arith; reads = h.divides }) i (omega (arith, entries-long p starts))
      in
      let same : entry_at p (get_or starts i 0) (get_or starts (suc i) 0) ≡ entry_at p r.at r.end = sym (entry-at p starts none i l) ∙ r.is in
      let at : r.at ≡ get_or starts i 0 = sym (ap (λ (e : Entry). e.start) same) in
      let size : get_or starts (suc i) 0 - get_or starts i 0 ≡ r.end - r.at = ap (λ (e : Entry). e.size) same in
      let end : r.end ≡ get_or starts (suc i) 0 = omega (arith, r.stretch.later) in
      subst (Stretch p (get_or starts i 0)) end (subst (λ (z : ℕ). Stretch p z r.end) at r.stretch)

  pub starts-within : (i : ℕ) → suc i < length starts → get_or starts i 0 + 12 ≤ length p
  starts-within i l = let s = starts-stretch i l in omega (arith, s.later, s.within)

  -- a mark stands where each starts
  pub starts-marked : (i : ℕ) → suc i < length starts → mark_code (mark_of (three p (get_or starts i 0))) ≡ 0 → ⊥
  unfolding extent_of
  starts-marked i l z = go (mark_of (three p (get_or starts i 0))) refl z
    where
      go : (m : Option Kind) → mark_of (three p (get_or starts i 0)) ≡ m → mark_code m ≡ 0 → ⊥
      go (Some Dvc) e n = omega arith
      go (Some Det) e n = omega arith
      go (Some Dpd) e n = omega arith
      go (Some Dpt) e n = omega arith
      go (Some Dvp) e n = omega arith
      go None e n =
          let end = get_or starts (suc i) 0 in
          let f = guarded (leb (get_or starts i 0 + 3) (length p)) (marked_end (mark_of (three p (get_or starts i 0))) p (get_or starts i 0 + 3)) Cut end (starts-stretch i l).ends in
          refused-ends NoMark end (sym (ap (λ (m : Option Kind). marked_end m p (get_or starts i 0 + 3)) e) ∙ f.1)
