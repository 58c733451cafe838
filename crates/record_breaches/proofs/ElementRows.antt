-- A device element: how long its list is, and its rows. Assumes nothing.
use mathlib.Core.Path.{◌≡◌, sym, ap, ◌∙◌}
use mathlib.Core.Bool.{Bool, true, false, not}
use mathlib.Core.List.{List, ◌++◌}
use Prim.Native.Nat.{ℕ, suc, ◌+◌, ◌*◌, ◌<◌, ◌≤◌}
use native.Mathlib.Omega.{arith}
use borrow.Author.Tests.{leb-true}
use lib.Dec.{eqb, leb}
use lib.ListN.{length, get_or}
use Rattle.std.specs.Prelude.{Option, Some, None, Ok}
use Rattle.records.specs.Layout.{layout, mark_code, mark_of, three}
use Rattle.records.specs.Extents.{extent_of, marked_end}
use Rattle.records.specs.Places.{field_at}
use Rattle.records.specs.declared.Kind.TheVariants.{Dvc, Det, Dpd, Dpt, Dvp}
use Rattle.records.specs.declared.Kind.{Kind}
use Rattle.records.specs.declared.Flaw.TheVariants.{Cut}
use Rattle.records.specs.declared.DeviceElement.{DeviceElement}
use Rattle.records.proofs.Range.{guarded, fields-end}
use Rattle.views.specs.Fields.{element_of}
use Rattle.faults.specs.Rows.{AllClear}
use Rattle.pool.specs.Reading.{Entry}
use Rattle.pool.specs.Walk.{entries_of, Divided}
use Rattle.pool.proofs.Starts.{starts-stretch}
use Rattle.naming.specs.Records.{start_at, kind_at}
use Rattle.naming.specs.Naming.{named, kind_of, parent_of, climb, tag_of}
use Rattle.naming.proofs.Starts.{start-read, kind-is}
use Rattle.rules.specs.Table.{is_parent_kind, repeats, element_key, entry_named, field_rows, reference_rows, list_rows, kind_rows}
use Rattle.field_rules.specs.Clean.{Apart}
use Rattle.field_rules.proofs.ByKind.{as-element}
use Rattle.field_rules.proofs.Clearing.{element-clear}

-- ---- a list of entries is no longer than its pool

element-fits : (p : List ℕ) (at e : ℕ) → extent_of p at ≡ Ok e → mark_code (mark_of (three p at)) ≡ 2 → 2 * (element_of p at).entries ≤ length p
unfolding extent_of element_of field_at layout
element-fits p at e h k = go (mark_of (three p at)) k g.1
  where
    g : (leb (at + 3) (length p) ≡ true) × (marked_end (mark_of (three p at)) p (at + 3) ≡ Ok e)
    g = guarded (leb (at + 3) (length p)) (marked_end (mark_of (three p at)) p (at + 3)) Cut e h

    go : (m : Option Kind) → mark_code m ≡ 2 → marked_end m p (at + 3) ≡ Ok e → 2 * (element_of p at).entries ≤ length p
    go None n q = absurd (omega (arith, n))
    go (Some Dvc) n q = absurd (omega (arith, n))
    go (Some Dpd) n q = absurd (omega (arith, n))
    go (Some Dpt) n q = absurd (omega (arith, n))
    go (Some Dvp) n q = absurd (omega (arith, n))
    go (Some Det) n q =
        let f = fields-end (layout Det) p (at + 3) e q (leb-true (at + 3) (length p) g.0) in
        omega (arith, f.1, f.2)

pub list-fits : (p starts : List ℕ) → Divided p starts → (i : ℕ) → suc i < length starts → kind_at (entries_of p starts) i ≡ 2 → (e : DeviceElement)
    → e ≡ element_of p (start_at (entries_of p starts) i) → e.entries ≤ 32768
list-fits p starts d i l k e is =
    let at = get_or starts i 0 in
    let fits = element-fits p at (get_or starts (suc i) 0) (starts-stretch p starts d i l).ends (kind-is p starts i l ∙ k) in
    let same : e.entries ≡ (element_of p at).entries = ap (λ (x : DeviceElement). x.entries) (is ∙ ap (element_of p) (sym (start-read p starts i l))) in
    omega (arith, d.short)

-- ---- its rows

module _ (p : List ℕ) (es : List Entry) (i at k : ℕ) (starts-at : at ≡ start_at es i) (kind-is-two : k ≡ 2) (e : DeviceElement) (is : e ≡ element_of p (start_at es i)) (parent : ℕ)
    (parent_is : parent ≡ named es e.parent) (again endless : Bool) (again-is : again ≡ repeats (element_key p es) (suc e.number) i (length es))
    (endless-is : endless ≡ not (eqb (climb (parent_of p es) (length es) (suc i)) 0)) where
  pub element-rows : kind_rows p es i k
      ≡ field_rows p e ++ (reference_rows (kind_of es) parent (entry_named p es at) e.entries ++ list_rows again endless (λ (m : ℕ). tag_of p es (entry_named p es at m)) e.entries)
  element-rows = as-element p es i k kind-is-two ∙ rw (starts-at, ← is, parent_is, again-is, endless-is)

  pub element-looked : AllClear (field_rows p e) → is_parent_kind (kind_of es parent) ≡ true → again ≡ false → endless ≡ false
      → Apart (λ (m : ℕ). tag_of p es (entry_named p es at m)) e.entries → AllClear (kind_rows p es i k)
  element-looked own right a b apart =
      rw (as-element p es i k kind-is-two)
      (element-clear p es i at e starts-at (is ∙ ap (element_of p) (sym starts-at)) own (ap (λ (r : ℕ). is_parent_kind (kind_of es r)) (sym parent_is) ∙ right) (sym again-is ∙ a) (sym endless-is ∙ b) apart)
