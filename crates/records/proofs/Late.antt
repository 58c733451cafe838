-- Testing late gives the same extents: one law over every layout. Assumes nothing.
use mathlib.Core.Path.{◌≡◌, refl, sym, ◌∙◌}
use mathlib.Core.Bool.{Bool, true, false, cond}
use mathlib.Core.List.{List, [], ◌∷◌}
use Prim.Native.Nat.{ℕ, ◌+◌, ◌*◌, ◌≤◌, ◌<◌}
use native.Mathlib.Omega.{arith}
use borrow.Author.Tests.{le-leb, lt-leb, le-ltb, leb-true, leb-false}
use lib.Dec.{leb, ltb}
use lib.ListN.{length, get_or}
use Rattle.std.specs.Prelude.{Ok, Err}
use Rattle.wire.specs.Bytes.{number_in}
use Rattle.records.specs.Layout.{Field, fixed, text, entries}
use Rattle.records.specs.Extents.{field_end, fields_end}
use Rattle.records.specs.Late.{late_fields, closed}
use Rattle.records.specs.declared.Flaw.{Flaw}
use Rattle.records.specs.declared.Flaw.TheVariants.{Cut, LengthOver}
use Rattle.records.proofs.Range.{stays}

-- a flaw passes through the fields behind it
late-stays : (fs : List Field) (p : List ℕ) (flaw : Flaw) → closed p (late_fields fs p (Err flaw)) ≡ Err flaw
late-stays [] p flaw = refl
late-stays (f ∷ fs) p flaw = late-stays fs p flaw

-- behind the pool's end every field is cut
past_end : (fs : List Field) (p : List ℕ) (at : ℕ) → length p < at → closed p (late_fields fs p (Ok at)) ≡ Err Cut
past_end [] p at h = rw (lt-leb at (length p) h)
past_end (fixed n ∷ fs) p at h = past_end fs p (at + n) (omega arith)
past_end (text limit ∷ fs) p at h = rw (le-ltb at (length p) (omega arith)) (late-stays fs p Cut)
past_end (entries ∷ fs) p at h = rw (lt-leb (at + 2) (length p) (omega arith)) (late-stays fs p Cut)

-- an end that is tested at once, or at the end of the fields behind it
late-end : (fs : List Field) (p : List ℕ) (e : ℕ) → (e ≤ length p → fields_end fs p (Ok e) ≡ closed p (late_fields fs p (Ok e)))
    → fields_end fs p (cond (leb e (length p)) (Ok e) (Err Cut)) ≡ closed p (late_fields fs p (Ok e))
late-end fs p e rest = go (leb e (length p)) refl
  where
    go : (b : Bool) → leb e (length p) ≡ b → fields_end fs p (cond b (Ok e) (Err Cut)) ≡ closed p (late_fields fs p (Ok e))
    go true t = rest (leb-true e (length p) t)
    go false t = stays fs p Cut ∙ sym (past_end fs p e (leb-false e (length p) t))

pub late : (fs : List Field) (p : List ℕ) (at : ℕ) → at ≤ length p → fields_end fs p (Ok at) ≡ closed p (late_fields fs p (Ok at))
unfolding field_end
late [] p at h = sym (rw (le-leb at (length p) h))
late (fixed n ∷ fs) p at h = late-end fs p (at + n) (late fs p (at + n))
late (text limit ∷ fs) p at h = go (late fs p (at + 1 + get_or p at 0)) (ltb at (length p)) (leb (get_or p at 0) limit)
  where
    e : ℕ
    e = at + 1 + get_or p at 0

    go : (e ≤ length p → fields_end fs p (Ok e) ≡ closed p (late_fields fs p (Ok e))) → (b c : Bool)
        → fields_end fs p (cond b (cond c (cond (leb e (length p)) (Ok e) (Err Cut)) (Err (LengthOver at))) (Err Cut)) ≡ closed p (late_fields fs p (cond b (cond c (Ok e) (Err (LengthOver at))) (Err Cut)))
    go rest true true = late-end fs p e rest
    go rest true false = stays fs p (LengthOver at) ∙ sym (late-stays fs p (LengthOver at))
    go rest false c = stays fs p Cut ∙ sym (late-stays fs p Cut)
late (entries ∷ fs) p at h = go (late fs p (at + 2 + 2 * number_in 2 p at)) (leb (at + 2) (length p))
  where
    e : ℕ
    e = at + 2 + 2 * number_in 2 p at

    go : (e ≤ length p → fields_end fs p (Ok e) ≡ closed p (late_fields fs p (Ok e))) → (b : Bool)
        → fields_end fs p (cond b (cond (leb e (length p)) (Ok e) (Err Cut)) (Err Cut)) ≡ closed p (late_fields fs p (cond b (Ok e) (Err Cut)))
    go rest true = late-end fs p e rest
    go rest false = stays fs p Cut ∙ sym (late-stays fs p Cut)
