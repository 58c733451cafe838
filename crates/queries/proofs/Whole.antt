-- A record of a pool that is read lies within it, and so do its texts. Assumes nothing.
use mathlib.Core.Path.{◌≡◌, refl, sym, ◌∙◌}
use mathlib.Core.Bool.{true, cond}
use mathlib.Core.List.{List, [], ◌∷◌, ◌++◌}
use Prim.Native.Nat.{ℕ, ◌+◌, ◌≤◌}
use native.Mathlib.Omega.{arith}
use borrow.Author.Tests.{leb-true}
use lib.Dec.{leb, ltb}
use lib.ListN.{length, get_or, take}
use Rattle.std.specs.Prelude.{Option, Some, None, Result, Ok, Err}
use Rattle.records.specs.Layout.{Field, text, layout, mark_code, mark_of, three}
use Rattle.records.specs.Extents.{field_end, fields_end, marked_end, extent_of}
use Rattle.records.specs.Places.{behind, behind_all, field_at}
use Rattle.records.specs.declared.Kind.TheVariants.{Dvc, Det, Dpd, Dpt, Dvp}
use Rattle.records.specs.declared.Kind.{Kind}
use Rattle.records.specs.declared.Flaw.{Flaw}
use Rattle.records.specs.declared.Flaw.TheVariants.{NoMark, Cut, LengthOver}
use Rattle.records.proofs.Range.{refused-ends, guarded, stays, field-ends, fields-end}
use Rattle.views.specs.Fields.{device_of, element_of, process_data_of, property_of, presentation_of}
use Rattle.queries.specs.Queries.{asked_text}

-- a whole record of a kind stands at a place
pub record Stands (p : List ℕ) (at kind : ℕ) : Type 0 where
  pub end : ℕ
  pub ends : extent_of p at ≡ Ok end
  pub marked : kind ≡ mark_code (mark_of (three p at))

-- the length byte of a record's last field, a text, keeps its limit
last-limit : (fs : List Field) (limit : ℕ) (p : List ℕ) (at e : ℕ) → fields_end (fs ++ text limit ∷ []) p (Ok at) ≡ Ok e → get_or p (behind_all fs p at) 0 ≤ limit
unfolding field_end
last-limit [] limit p at e h =
    let n = get_or p at 0 in
    let whole : Result ℕ Flaw = cond (leb (at + 1 + n) (length p)) (Ok (at + 1 + n)) (Err Cut) in
    let a = guarded (ltb at (length p)) (cond (leb n limit) whole (Err (LengthOver at))) Cut e h in
    leb-true n limit (guarded (leb n limit) whole (LengthOver at) e a.1).0
last-limit (f ∷ fs) limit p at e h = go (λ (m : ℕ). last-limit fs limit p m e) (field_end f p at) refl h
  where
    go : ((m : ℕ) → fields_end (fs ++ text limit ∷ []) p (Ok m) ≡ Ok e → get_or p (behind_all fs p m) 0 ≤ limit) → (x : Result ℕ Flaw) → field_end f p at ≡ x
        → fields_end (fs ++ text limit ∷ []) p x ≡ Ok e → get_or p (behind_all fs p (behind f p at)) 0 ≤ limit
    go rest (Ok m) q g = rw (← (field-ends f p at m q).2) (rest m g)
    go rest (Err flaw) q g = absurd (refused-ends flaw e (sym (stays (fs ++ text limit ∷ []) p flaw) ∙ g))

module _ (p : List ℕ) (at kind : ℕ) (s : Stands p at kind) where
  fields : (leb (at + 3) (length p) ≡ true) × (marked_end (mark_of (three p at)) p (at + 3) ≡ Ok s.end)
  unfolding extent_of
  fields = guarded (leb (at + 3) (length p)) (marked_end (mark_of (three p at)) p (at + 3)) Cut s.end s.ends

  begun : at + 3 ≤ length p
  begun = leb-true (at + 3) (length p) fields.0

  pub text-within : ((asked_text p kind at).from ≤ (asked_text p kind at).to) × ((asked_text p kind at).to ≤ length p)
  unfolding asked_text device_of element_of process_data_of property_of presentation_of field_at layout
  text-within = rw s.marked (go (mark_of (three p at)) fields.1)
    where
      go : (m : Option Kind) → marked_end m p (at + 3) ≡ Ok s.end
          → ((asked_text p (mark_code m) at).from ≤ (asked_text p (mark_code m) at).to) × ((asked_text p (mark_code m) at).to ≤ length p)
      go None q = absurd (refused-ends NoMark s.end q)
      go (Some Dvc) q = let f = fields-end (layout Dvc) p (at + 3) s.end q begun in omega (arith, f.1, f.2)
      go (Some Det) q = let f = fields-end (layout Det) p (at + 3) s.end q begun in omega (arith, f.1, f.2)
      go (Some Dpd) q = let f = fields-end (layout Dpd) p (at + 3) s.end q begun in omega (arith, f.1, f.2)
      go (Some Dpt) q = let f = fields-end (layout Dpt) p (at + 3) s.end q begun in omega (arith, f.1, f.2)
      go (Some Dvp) q = let f = fields-end (layout Dvp) p (at + 3) s.end q begun in omega (arith, f.1, f.2)

  pub extended-limit : kind ≡ 1 → get_or p (field_at Dvc 7 p at) 0 ≤ 32
  unfolding field_at layout
  extended-limit k = go (mark_of (three p at)) (sym s.marked ∙ k) fields.1
    where
      go : (m : Option Kind) → mark_code m ≡ 1 → marked_end m p (at + 3) ≡ Ok s.end → get_or p (field_at Dvc 7 p at) 0 ≤ 32
      go None n q = absurd (omega (arith, n))
      go (Some Det) n q = absurd (omega (arith, n))
      go (Some Dpd) n q = absurd (omega (arith, n))
      go (Some Dpt) n q = absurd (omega (arith, n))
      go (Some Dvp) n q = absurd (omega (arith, n))
      go (Some Dvc) n q = last-limit (take 7 (layout Dvc)) 32 p (at + 3) s.end q
