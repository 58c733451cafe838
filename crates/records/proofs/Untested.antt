-- What need not be tested: if it is past the pool's end, so is what follows it. Assumes nothing.
use mathlib.Core.Path.{◌≡◌, refl, sym, ap, ◌∙◌}
use mathlib.Core.Bool.{Bool, true, false, cond}
use mathlib.Core.List.{List, ◌∷◌}
use Prim.Native.Nat.{ℕ, ◌+◌, ◌≤◌, ◌<◌}
use native.Mathlib.Decide.{dec_lt}
use native.Mathlib.Omega.{arith}
use borrow.Author.Tests.{le-leb, lt-leb, lt-ltb, le-ltb, leb-true, leb-false}
use lib.Dec.{leb, ltb}
use lib.ListN.{length, get_or, get_or-eq_default}
use Rattle.std.specs.Prelude.{Result, Ok, Err}
use Rattle.records.specs.Layout.{Field, fixed, text, entries}
use Rattle.records.specs.Extents.{field_end, fields_end}
use Rattle.records.specs.declared.Flaw.{Flaw}
use Rattle.records.specs.declared.Flaw.TheVariants.{Cut, LengthOver}
use Rattle.records.proofs.Range.{refused-ends, guarded, stays}
use Rattle.records.proofs.Ends.{text-missing, text-over}

-- behind the pool's end every field is cut
pub past-end : (f : Field) (fs : List Field) (p : List ℕ) (at : ℕ) → length p < at → fields_end (f ∷ fs) p (Ok at) ≡ Err Cut
unfolding field_end
past-end (fixed n) fs p at h = rw (lt-leb (at + n) (length p) (omega arith)) (stays fs p Cut)
past-end (text limit) fs p at h = rw (le-ltb at (length p) (omega arith)) (stays fs p Cut)
past-end entries fs p at h = rw (lt-leb (at + 2) (length p) (omega arith)) (stays fs p Cut)

-- so an end need not be tested where a field follows
tested-later : (f : Field) (fs : List Field) (p : List ℕ) (e : ℕ) → fields_end (f ∷ fs) p (cond (leb e (length p)) (Ok e) (Err Cut)) ≡ fields_end (f ∷ fs) p (Ok e)
tested-later f fs p e = go (leb e (length p)) refl
  where
    go : (b : Bool) → leb e (length p) ≡ b → fields_end (f ∷ fs) p (cond b (Ok e) (Err Cut)) ≡ fields_end (f ∷ fs) p (Ok e)
    go true t = refl
    go false t = stays fs p Cut ∙ sym (past-end f fs p e (leb-false e (length p) t))

pub past-fixed : (n : ℕ) (f : Field) (fs : List Field) (p : List ℕ) (at e : ℕ) → at + n ≡ e → fields_end (fixed n ∷ f ∷ fs) p (Ok at) ≡ fields_end (f ∷ fs) p (Ok e)
unfolding field_end
past-fixed n f fs p at e h = tested-later f fs p (at + n) ∙ ap (λ (x : ℕ). fields_end (f ∷ fs) p (Ok x)) h

pub past-text : (limit : ℕ) (f : Field) (fs : List Field) (p : List ℕ) (at : ℕ) → at < length p → get_or p at 0 ≤ limit
    → fields_end (text limit ∷ f ∷ fs) p (Ok at) ≡ fields_end (f ∷ fs) p (Ok (at + 1 + get_or p at 0))
unfolding field_end
past-text limit f fs p at h k = rw (lt-ltb at (length p) h, le-leb (get_or p at 0) limit k) (tested-later f fs p (at + 1 + get_or p at 0))

-- what is wrong with a field is wrong with the record
pub bad-first : (f : Field) (fs : List Field) (p : List ℕ) (at : ℕ) (flaw : Flaw) → Err flaw ≡ field_end f p at → Err flaw ≡ fields_end (f ∷ fs) p (Ok at)
bad-first f fs p at flaw h = sym (ap (fields_end fs p) (sym h) ∙ stays fs p flaw)

-- a length byte over its limit is the first thing wrong
pub over-first : (limit : ℕ) (fs : List Field) (p : List ℕ) (at : ℕ) → at < length p → limit < get_or p at 0 → fields_end (text limit ∷ fs) p (Ok at) ≡ Err (LengthOver at)
over-first limit fs p at h k = ap (fields_end fs p) (text-over limit p at h k) ∙ stays fs p (LengthOver at)

-- what is wrong with a record whose end is past the pool's: its length byte may be
pub short : (limit : ℕ) (f : Field) (fs : List Field) (p : List ℕ) (at : ℕ) → (at < length p → get_or p at 0 ≤ limit → fields_end (f ∷ fs) p (Ok (at + 1 + get_or p at 0)) ≡ Err Cut)
    → Err (cond (ltb limit (get_or p at 0)) (LengthOver at) Cut) ≡ fields_end (text limit ∷ f ∷ fs) p (Ok at)
short limit f fs p at cut = go (dec_lt limit (get_or p at 0)) (dec_lt at (length p))
  where
    go : Dec (limit < get_or p at 0) → Dec (at < length p) → Err (cond (ltb limit (get_or p at 0)) (LengthOver at) Cut) ≡ fields_end (text limit ∷ f ∷ fs) p (Ok at)
    go (yes o) (yes h) = rw (lt-ltb limit (get_or p at 0) o) (sym (over-first limit (f ∷ fs) p at h o))
    go (yes o) (no n) = let z : get_or p at 0 ≡ 0 = get_or-eq_default p 0 (omega arith) in absurd (omega arith)
    go (no o) (yes h) =
        let k : get_or p at 0 ≤ limit = omega arith in
        rw (le-ltb limit (get_or p at 0) k) (sym (past-text limit f fs p at h k ∙ cut h k))
    go (no o) (no n) =
        let k : get_or p at 0 ≤ limit = omega arith in
        rw (le-ltb limit (get_or p at 0) k) (sym (ap (fields_end (f ∷ fs) p) (text-missing limit p at (omega arith)) ∙ stays (f ∷ fs) p Cut))

-- what a test of an end tells
module _ (e : ℕ) (p : List ℕ) where
  pub end-past : (flaw : Flaw) → Err flaw ≡ cond (leb e (length p)) (Ok e) (Err Cut) → (length p < e) × (flaw ≡ Cut)
  end-past flaw h = go (dec_lt (length p) e)
    where
      go : Dec (length p < e) → (length p < e) × (flaw ≡ Cut)
      go (yes l) = let c : ◌≡◌ {A = Result ℕ Flaw} (Err flaw) (Err Cut) = h ∙ rw (lt-leb e (length p) l) in (l, cc)
      go (no n) = let b : e ≤ length p = omega arith in absurd (refused-ends flaw e (rw (le-leb e (length p) b) at h))

  pub end-within : (x : ℕ) → Ok x ≡ cond (leb e (length p)) (Ok e) (Err Cut) → (e ≤ length p) × (x ≡ e)
  end-within x h = let g = guarded (leb e (length p)) (Ok e) Cut x (sym h) in (leb-true e (length p) g.0, cc (g.1))
