-- The walk over a pool's records, turn by turn. Assumes nothing.
use mathlib.Core.Path.{◌≡◌, refl, sym, ap, subst, ◌∙◌}
use mathlib.Core.Bool.{Bool, true, false}
use mathlib.Core.List.{List, [], ◌∷◌}
use Prim.Native.Nat.{ℕ, zero, suc, ◌+◌, ◌*◌, ◌≤◌, ◌<◌}
use native.Mathlib.Omega.{arith}
use borrow.Author.Tests.{lt-ltb, le-ltb}
use native.Mathlib.Decide.{dec_lt}
use lib.Dec.{ltb}
use lib.ListN.{length}
use Rattle.std.specs.Prelude.{Result, Ok, Err}
use Rattle.records.specs.Extents.{extent_of}
use Rattle.records.specs.Answer.{extent_answer}
use Rattle.records.specs.declared.Flaw.{Flaw}
use Rattle.records.specs.declared.Flaw.TheVariants.{NoMark, Cut, LengthOver}
use Rattle.records.proofs.Range.{extent-ends}
use Rattle.pool.specs.Answer.{Answer, answer}
use Rattle.pool.specs.Reading.{Entry, entry_at, Scan, records, refused, onto, turn, more, scan_from, scan_of}
use Rattle.pool.specs.Walk.{count_from}

pub scan-turn : (t : ℕ) (p : List ℕ) (at : ℕ) → at < length p → scan_from (suc t) p at ≡ turn (scan_from t p) p at (extent_of p at)
unfolding scan_from
scan-turn t p at h = rw (lt-ltb at (length p) h)

pub scan-end : (t : ℕ) (p : List ℕ) (at : ℕ) → length p ≤ at → scan_from t p at ≡ records []
unfolding scan_from
scan-end zero p at h = refl
scan-end (suc t) p at h = rw (le-ltb at (length p) h)

-- a flaw has a number
pub flaw-number : (at : ℕ) (flaw : Flaw) → (extent_answer at (Err flaw)).number ≡ 0 → ⊥
flaw-number at NoMark e = omega arith
flaw-number at Cut e = omega arith
flaw-number at (LengthOver place) e = omega arith

-- what is told of a bad record
pub data BadRecord : Answer → Type 0 where
  unmarked : (at : ℕ) → BadRecord (answer 3 at)
  cut : (at : ℕ) → BadRecord (answer 4 at)
  over : (at : ℕ) → BadRecord (answer 5 at)

pub bad-number : {a : Answer} → BadRecord a → a.number ≡ 0 → ⊥
bad-number (unmarked at) e = let z : ◌≡◌ {A = ℕ} 3 0 = e in omega arith
bad-number (cut at) e = let z : ◌≡◌ {A = ℕ} 4 0 = e in omega arith
bad-number (over at) e = let z : ◌≡◌ {A = ℕ} 5 0 = e in omega arith

-- a walk is refused with nothing else
abbrev pub Proper : Scan → Type 0
Proper (records es) = Unit {0}
Proper (refused a) = BadRecord a

onto-proper : (e : Entry) (s : Scan) → Proper s → Proper (onto e s)
onto-proper e (records es) h = tt
onto-proper e (refused a) h = h

turn-proper : (rest : ℕ → Scan) → ((at : ℕ) → Proper (rest at)) → (p : List ℕ) (at : ℕ) (x : Result ℕ Flaw) → Proper (turn rest p at x)
turn-proper rest h p at (Ok end) = onto-proper (entry_at p at end) (rest end) (h end)
turn-proper rest h p at (Err NoMark) = unmarked _
turn-proper rest h p at (Err Cut) = cut _
turn-proper rest h p at (Err (LengthOver place)) = over _

more-proper : (b : Bool) (s : Scan) → Proper s → Proper (more b s)
more-proper true s h = h
more-proper false s h = tt

from-proper : (t : ℕ) (p : List ℕ) (at : ℕ) → Proper (scan_from t p at)
unfolding scan_from
from-proper zero p at = tt
from-proper (suc t) p at = more-proper (ltb at (length p)) (turn (scan_from t p) p at (extent_of p at)) (turn-proper (scan_from t p) (from-proper t p) p at (extent_of p at))

pub scan-proper : (p : List ℕ) → Proper (scan_of p)
unfolding scan_of
scan-proper p = from-proper (length p) p 0

count-onto : (n : ℕ) (e : Entry) (s : Scan) → count_from n (onto e s) ≡ count_from (n + 1) s
count-onto n e (records es) = ap (answer 0) (omega arith)
count-onto n e (refused a) = refl

-- what is known of a walk that stands at a place with n records behind it: its answer is the whole walk's
pub record Standing (p : List ℕ) (whole : Answer) (at n : ℕ) : Type 0 where
  pub turns : ℕ
  pub enough : length p ≤ at + turns
  pub answers : count_from n (scan_from turns p at) ≡ whole

module _ (p : List ℕ) (whole : Answer) (at n : ℕ) (h : at < length p) where
  last_turn : (t : ℕ) → length p ≤ at + t → count_from n (scan_from t p at) ≡ whole
      → (s : ℕ) × (length p ≤ at + suc s) × (count_from n (turn (scan_from s p) p at (extent_of p at)) ≡ whole)
  last_turn zero l e = absurd (omega arith)
  last_turn (suc t) l e = (t, l, ap (count_from n) (sym (scan-turn t p at h)) ∙ e)

  pub advance : (e : ℕ) → extent_of p at ≡ Ok e → Standing p whole at n → Standing p whole e (n + 1)
  advance e x st =
      let s = last_turn st.turns st.enough st.answers in
      let r = extent-ends p at e x in
      record {
        turns = s.0;
        enough = omega (arith, s.1);
        answers = sym (count-onto n (entry_at p at e) (scan_from s.0 p e)) ∙ (rw x at s.2);
      }

  pub stopped : (x : Result ℕ Flaw) (a : Answer) → extent_of p at ≡ x → ((rest : ℕ → Scan) → turn rest p at x ≡ refused a) → Standing p whole at n → a ≡ whole
  stopped x a e t st =
      let s = last_turn st.turns st.enough st.answers in
      let f : turn (scan_from s.0 p) p at (extent_of p at) ≡ refused a = ap (turn (scan_from s.0 p) p at) e ∙ t (scan_from s.0 p) in
      sym (ap (count_from n) f) ∙ s.2

pub finished : (p : List ℕ) (whole : Answer) (at n : ℕ) → length p ≤ at → Standing p whole at n → answer 0 n ≡ whole
finished p whole at n h st =
    let z : n ≡ n + 0 = omega arith in
    ap (answer 0) z ∙ sym (ap (count_from n) (scan-end st.turns p at h)) ∙ st.answers

-- a walk that is known to read all that is left
pub record Remaining (p : List ℕ) (at : ℕ) (rs : List Entry) : Type 0 where
  pub turns : ℕ
  pub enough : length p ≤ at + turns
  pub reads : scan_from turns p at ≡ records rs

-- its next record, and what is left behind it
pub record Next (p : List ℕ) (at : ℕ) (rs : List Entry) : Type 0 where
  pub end : ℕ
  pub ends : extent_of p at ≡ Ok end
  pub left : List Entry
  pub first : rs ≡ entry_at p at end ∷ left
  pub later : at + 12 ≤ end
  pub within : end ≤ length p
  pub rest : Remaining p end left

pub next_of : (p : List ℕ) (at : ℕ) (rs : List Entry) → at < length p → Remaining p at rs → Next p at rs
next_of p at rs h m = by-turns m.turns m.enough m.reads
  where
    by-scan : (t e : ℕ) → length p ≤ at + suc t → extent_of p at ≡ Ok e → (s : Scan) → scan_from t p e ≡ s → onto (entry_at p at e) s ≡ records rs → Next p at rs
    by-scan t e l x (records es) y g =
        let r = extent-ends p at e x in
        record {
          end = e;
          ends = x;
          left = es;
          first = cc;
          later = r.0;
          within = r.1;
          rest = record { turns = t; enough = omega arith; reads = y };
        }
    by-scan t e l x (refused a) y g = let z : ◌≡◌ {A = ℕ} 0 1 = cc in absurd (omega arith)

    refusal : (a : Answer) → refused a ≡ records rs → ⊥
    refusal a g = let z : ◌≡◌ {A = ℕ} 0 1 = cc in omega arith

    by-extent : (t : ℕ) → length p ≤ at + suc t → (x : Result ℕ Flaw) → extent_of p at ≡ x → turn (scan_from t p) p at x ≡ records rs → Next p at rs
    by-extent t l (Ok e) q g = by-scan t e l q (scan_from t p e) refl g
    by-extent t l (Err flaw) q g = absurd (refusal _ g)

    by-turns : (t : ℕ) → length p ≤ at + t → scan_from t p at ≡ records rs → Next p at rs
    by-turns zero l e = absurd (omega arith)
    by-turns (suc t) l e = by-extent t l (extent_of p at) refl (sym (scan-turn t p at h) ∙ e)

-- at the end nothing is left, and only there
pub none_left : (p : List ℕ) (at : ℕ) (rs : List Entry) → length p ≤ at → Remaining p at rs → rs ≡ []
none_left p at rs h m =
    let e : records rs ≡ records [] = sym m.reads ∙ scan-end m.turns p at h in
    cc

pub at-end : (p : List ℕ) (at : ℕ) → at ≤ length p → Remaining p at [] → at ≡ length p
at-end p at h m = go (dec_lt at (length p))
  where
    go : Dec (at < length p) → at ≡ length p
    go (yes l) = let x = next_of p at [] l m in let z : ◌≡◌ {A = ℕ} 0 1 = cc x.first in absurd (omega arith)
    go (no l) = omega arith

-- a record takes at least twelve bytes, so a pool has at most a twelfth as many records
pub few-left : (p : List ℕ) (rs : List Entry) (at : ℕ) → at ≤ length p → Remaining p at rs → at + 12 * length rs ≤ length p
few-left p [] at w m = omega arith
few-left p (e ∷ es) at w m = go (dec_lt at (length p)) (few-left p es)
  where
    go : Dec (at < length p) → ((next : ℕ) → next ≤ length p → Remaining p next es → next + 12 * length es ≤ length p) → at + 12 * length (e ∷ es) ≤ length p
    go (yes l) rest =
        let x = next_of p at (e ∷ es) l m in
        let same : x.left ≡ es = cc x.first in
        let r = rest x.end x.within (subst (Remaining p x.end) same x.rest) in
        omega (arith, x.later)
    go (no l) rest =
        let none : e ∷ es ≡ [] = none_left p at (e ∷ es) (omega arith) m in
        let z : ◌≡◌ {A = ℕ} 0 1 = cc in
        absurd (omega arith)

pub few-records : (p : List ℕ) (es : List Entry) → scan_of p ≡ records es → 12 * length es ≤ length p
unfolding scan_of
few-records p es e = omega (arith, few-left p es 0 (omega arith) (record { turns = length p; enough = omega arith; reads = e }))
