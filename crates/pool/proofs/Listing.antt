-- Listing the records by their starts, turn by turn. Assumes nothing.
use mathlib.Core.Path.{◌≡◌, refl, sym, ap, subst, ◌∙◌}
use mathlib.Core.List.{List, [], ◌∷◌, ◌++◌, append_assoc, append-nil}
use Prim.Native.Nat.{ℕ, suc, ◌+◌, ◌≤◌, ◌<◌}
use native.Mathlib.Numerals.{add-one}
use native.Mathlib.Omega.{arith}
use lib.ListN.{length, set, take, length-append, length-set}
use lib.Seq.{take-suc-set, length-take-le}
use Rattle.std.specs.Prelude.{Result, Ok}
use Rattle.records.specs.Extents.{extent_of}
use Rattle.records.specs.declared.Flaw.{Flaw}
use Rattle.pool.specs.Answer.{Answer, answer}
use Rattle.pool.specs.Reading.{Entry, entry_at, records, scan_of}
use Rattle.pool.specs.Walk.{count_from, entries_after, entries_of, Starts}
use Rattle.pool.proofs.Steps.{Remaining, next_of, none_left}
use Rattle.pool.proofs.Starts.{entries-long, entries-more}

-- what is listed and what is left are the whole
pub record Left (p starts : List ℕ) (at n : ℕ) (es : List Entry) : Type 0 where
  pub rest : List Entry
  pub remaining : Remaining p at rest
  pub whole : entries_of p (take n starts ++ at ∷ []) ++ rest ≡ es

abbrev pub Listing : List ℕ → List ℕ → ℕ → ℕ → Type 0
Listing p starts at n = (es : List Entry) → scan_of p ≡ records es → Left p starts at n es

pub listing_start : (p starts : List ℕ) → Listing p starts 0 0
unfolding scan_of entries_of entries_after
listing_start p starts es e =
    record { rest = es; remaining = record { turns = length p; enough = omega arith; reads = e }; whole = refl }

pub listing-more : (p starts : List ℕ) (at n end : ℕ) → at < length p → n < length starts → extent_of p at ≡ Ok end
    → Listing p starts at n → Listing p (set starts n at) end (n + 1)
listing-more p starts at n end h room x f es e =
    let left = f es e in
    let next = next_of p at left.rest h left.remaining in
    let is : ◌≡◌ {A = Result ℕ Flaw} (Ok next.end) (Ok end) = sym next.ends ∙ x in
    let same : next.end ≡ end = cc in
    record {
      rest = next.left;
      remaining = subst (λ (z : ℕ). Remaining p z next.left) same next.rest;
      whole =
          ap (λ (l : List ℕ). entries_of p (l ++ end ∷ []) ++ next.left) (ap (λ (k : ℕ). take k (set starts n at)) (add-one n) ∙ take-suc-set starts n at room)
          ∙ ap (λ (l : List Entry). l ++ next.left) (entries-more p (take n starts) at end)
          ∙ append_assoc (entries_of p (take n starts ++ at ∷ [])) (entry_at p at end ∷ []) next.left
          ∙ ap (λ (z : ℕ). entries_of p (take n starts ++ at ∷ []) ++ (entry_at p at z ∷ next.left)) (sym same)
          ∙ ap (λ (l : List Entry). entries_of p (take n starts ++ at ∷ []) ++ l) (sym next.first)
          ∙ left.whole;
    }

pub listing-end : (p starts : List ℕ) (at n : ℕ) → length p ≤ at → n < length starts → Listing p starts at n → Starts p (set starts n at)
unfolding Starts
listing-end p starts at n h room f es e =
    let left = f es e in
    let whole : entries_of p (take n starts ++ at ∷ []) ≡ es =
    sym (append-nil (entries_of p (take n starts ++ at ∷ [])))
    ∙ ap (λ (l : List Entry). entries_of p (take n starts ++ at ∷ []) ++ l) (sym (none_left p at left.rest h left.remaining))
    ∙ left.whole
    in
    let count : length es ≡ n =
    omega (arith, ap length whole, entries-long p (take n starts ++ at ∷ []), length-append (take n starts) (at ∷ []), length-take-le n starts (omega arith))
    in
    (rw (length-set starts n at, count) room, ap (λ (k : ℕ). entries_of p (take (suc k) (set starts n at))) count ∙ ap (entries_of p) (take-suc-set starts n at room) ∙ whole)

-- a walk that is refused lists nothing
pub listing-refused : (number place : ℕ) → (number ≡ 0 → ⊥) → (p starts : List ℕ) → answer number place ≡ count_from 0 (scan_of p) → Starts p starts
unfolding Starts
listing-refused number place some p starts a es e = absurd (some (ap (λ (x : Answer). x.number) (a ∙ ap (count_from 0) e)))
