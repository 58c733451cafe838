-- A record that ends, ends after its mark and within the pool, with its fields where the layout says. Assumes nothing.
use mathlib.Core.Path.{◌≡◌, refl, sym, ap, ◌∙◌}
use mathlib.Core.Bool.{Bool, true, false, cond}
use mathlib.Core.List.{List, [], ◌∷◌}
use Prim.Native.Nat.{ℕ, ◌+◌, ◌*◌, ◌≤◌}
use native.Mathlib.Omega.{arith}
use borrow.Author.Tests.{leb-true}
use lib.Dec.{leb, ltb}
use lib.ListN.{length, get_or}
use Rattle.std.specs.Prelude.{Result, Ok, Err, Option, Some, None}
use Rattle.wire.specs.Bytes.{number_in}
use Rattle.records.specs.Layout.{Field, fixed, text, entries, layout, mark_code, mark_of, three}
use Rattle.records.specs.Extents.{field_end, fields_end, marked_end, extent_of}
use Rattle.records.specs.Places.{behind, behind_all, field_at}
use Rattle.records.specs.declared.Kind.{Kind}
use Rattle.records.specs.declared.Kind.TheVariants.{Dvc, Det, Dpd, Dpt, Dvp}
use Rattle.records.specs.declared.Flaw.{Flaw}
use Rattle.records.specs.declared.Flaw.TheVariants.{NoMark, Cut, LengthOver}

-- what is refused has no end
pub refused-ends : (flaw : Flaw) (e : ℕ) → ◌≡◌ {A = Result ℕ Flaw} (Err flaw) (Ok e) → ⊥
refused-ends flaw e h = cc

-- a test that guards an end held, and the end is the one given
pub guarded : (b : Bool) (x : Result ℕ Flaw) (flaw : Flaw) (e : ℕ) → cond b x (Err flaw) ≡ Ok e → (b ≡ true) × (x ≡ Ok e)
guarded true x flaw e h = (refl, h)
guarded false x flaw e h = absurd (refused-ends flaw e h)

-- once refused, the fields behind change nothing
pub stays : (fs : List Field) (p : List ℕ) (flaw : Flaw) → fields_end fs p (Err flaw) ≡ Err flaw
stays [] p flaw = refl
stays (f ∷ fs) p flaw = stays fs p flaw

-- a field that is there ends within the pool, where its bytes say
pub field-ends : (f : Field) (p : List ℕ) (at e : ℕ) → field_end f p at ≡ Ok e → (at ≤ e) × (e ≤ length p) × (e ≡ behind f p at)
unfolding field_end
field-ends (fixed n) p at e h =
    let g = guarded (leb (at + n) (length p)) (Ok (at + n)) Cut e h in
    let is : at + n ≡ e = cc (g.1) in
    omega (arith, leb-true (at + n) (length p) g.0)
field-ends (text limit) p at e h =
    let n = get_or p at 0 in
    let whole : Result ℕ Flaw = cond (leb (at + 1 + n) (length p)) (Ok (at + 1 + n)) (Err Cut) in
    let a = guarded (ltb at (length p)) (cond (leb n limit) whole (Err (LengthOver at))) Cut e h in
    let b = guarded (leb n limit) whole (LengthOver at) e a.1 in
    let g = guarded (leb (at + 1 + n) (length p)) (Ok (at + 1 + n)) Cut e b.1 in
    let is : at + 1 + n ≡ e = cc (g.1) in
    omega (arith, leb-true (at + 1 + n) (length p) g.0)
field-ends entries p at e h =
    let end = at + 2 + 2 * number_in 2 p at in
    let a = guarded (leb (at + 2) (length p)) (cond (leb end (length p)) (Ok end) (Err Cut)) Cut e h in
    let g = guarded (leb end (length p)) (Ok end) Cut e a.1 in
    let is : end ≡ e = cc (g.1) in
    omega (arith, leb-true end (length p) g.0)

pub fields-end : (fs : List Field) (p : List ℕ) (at e : ℕ) → fields_end fs p (Ok at) ≡ Ok e → at ≤ length p → (at ≤ e) × (e ≤ length p) × (e ≡ behind_all fs p at)
fields-end [] p at e h k = let is : at ≡ e = cc h in omega arith
fields-end (f ∷ fs) p at e h k = go (λ m. fields-end fs p m e) (field_end f p at) refl h
  where
    go : ((m : ℕ) → fields_end fs p (Ok m) ≡ Ok e → m ≤ length p → (m ≤ e) × (e ≤ length p) × (e ≡ behind_all fs p m))
        → (x : Result ℕ Flaw) → field_end f p at ≡ x → fields_end fs p x ≡ Ok e → (at ≤ e) × (e ≤ length p) × (e ≡ behind_all fs p (behind f p at))
    go rest (Ok m) q g =
        let a = field-ends f p at m q in
        let b = rest m g a.1 in
        (omega arith, b.1, b.2 ∙ ap (behind_all fs p) a.2)
    go rest (Err flaw) q g = absurd (refused-ends flaw e (sym (stays fs p flaw) ∙ g))

-- no record takes fewer than 12 bytes
kind-long : (k : Kind) (p : List ℕ) (at : ℕ) → at + 9 ≤ behind_all (layout k) p at
unfolding layout
kind-long Dvc p at = omega arith
kind-long Det p at = omega arith
kind-long Dpd p at = omega arith
kind-long Dpt p at = omega arith
kind-long Dvp p at = omega arith

pub extent-ends : (p : List ℕ) (at e : ℕ) → extent_of p at ≡ Ok e → (at + 12 ≤ e) × (e ≤ length p)
unfolding extent_of
extent-ends p at e h =
    let g = guarded (leb (at + 3) (length p)) (marked_end (mark_of (three p at)) p (at + 3)) Cut e h in
    let fits : at + 3 ≤ length p = leb-true (at + 3) (length p) g.0 in
    go fits (mark_of (three p at)) g.1
  where
    go : at + 3 ≤ length p → (m : Option Kind) → marked_end m p (at + 3) ≡ Ok e → (at + 12 ≤ e) × (e ≤ length p)
    go fits (Some k) g = let r = fields-end (layout k) p (at + 3) e g fits in (omega (arith, r.2, kind-long k p (at + 3)), r.1)
    go fits None g = absurd (refused-ends NoMark e g)

-- the parent ID of a device element lies within the record
pub parent-within : (p : List ℕ) (at e : ℕ) → extent_of p at ≡ Ok e → mark_code (mark_of (three p at)) ≡ 2 → field_at Det 4 p at + 2 ≤ e
unfolding extent_of field_at layout
parent-within p at e h k =
    let g = guarded (leb (at + 3) (length p)) (marked_end (mark_of (three p at)) p (at + 3)) Cut e h in
    let fits : at + 3 ≤ length p = leb-true (at + 3) (length p) g.0 in
    go fits (mark_of (three p at)) k g.1
  where
    go : at + 3 ≤ length p → (m : Option Kind) → mark_code m ≡ 2 → marked_end m p (at + 3) ≡ Ok e → field_at Det 4 p at + 2 ≤ e
    go fits (Some Dvc) n x = absurd (omega arith)
    go fits (Some Det) n x = let r = fields-end (layout Det) p (at + 3) e x fits in omega (arith, r.2)
    go fits (Some Dpd) n x = absurd (omega arith)
    go fits (Some Dpt) n x = absurd (omega arith)
    go fits (Some Dvp) n x = absurd (omega arith)
    go fits None n x = absurd (omega arith)
