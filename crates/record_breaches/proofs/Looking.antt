-- What one look at a record shows. Assumes nothing.
use mathlib.Core.Path.{◌≡◌, refl, sym, ap, ◌∙◌}
use mathlib.Core.Bool.{true, not, ◌||◌, and-false}
use mathlib.Core.List.{List}
use Prim.Native.Nat.{ℕ, zero, suc, ◌+◌, ◌-◌}
use native.Mathlib.Omega.{arith}
use borrow.Author.Tests.{eq-eqb, ne_eqb}
use lib.Dec.{eqb, ltb}
use lib.ListN.{get_or, take, drop}
use Rattle.wire.specs.Bytes.{number_in}
use Rattle.records.specs.Layout.{layout}
use Rattle.records.specs.Places.{field_at}
use Rattle.records.specs.declared.Kind.TheVariants.{Dpd, Dpt}
use Rattle.views.specs.Fields.{text_after, process_data_of, property_of}
use Rattle.text.specs.Examined.{sound_text}
use Rattle.faults.specs.Rows.{AllClear}
use Rattle.faults.proofs.Clearing.{clear-then}
use Rattle.pool.specs.Reading.{Entry}
use Rattle.naming.specs.Records.{start_at}
use Rattle.naming.specs.Naming.{named, kind_of}
use Rattle.rules.specs.Table.{bad_source, data_rows, property_rows, presented_rows, kind_rows}
use Rattle.field_rules.proofs.ByKind.{data-rows, property-rows}
use Rattle.field_rules.proofs.Clearing.{data-clear, property-clear}

-- ---- a presentation

pub none-presented : (es : List Entry) (x : ℕ) → x ≡ 65535 → AllClear (presented_rows es x)
unfolding named
none-presented es x e = (λ m l. rw (eq-eqb x 65535 e), (λ m l. rw (eq-eqb x 65535 e), tt))

-- no record has the number 0
some-kind : (es : List Entry) (r k : ℕ) → kind_of es r ≡ suc k → r ≡ 0 → ⊥
some-kind es zero k e z = omega (arith, e)
some-kind es (suc r) k e z = omega (arith, z)

pub right-presented : (es : List Entry) (x : ℕ) → kind_of es (named es x) ≡ 5 → AllClear (presented_rows es x)
right-presented es x k =
    let some : eqb (named es x) 0 ≡ _ = ne_eqb (named es x) 0 (some-kind es (named es x) 4 k) in
    (λ m l. rw some (and-false (not (eqb x 65535))), (λ m l. rw k (and-false (not (eqb (named es x) 0))), tt))

-- ---- process data and a property: where the text stands, and the presentation behind it

module _ (p : List ℕ) (at : ℕ) where
  data-at : field_at Dpd 4 p at ≡ at + 9
  unfolding field_at layout
  data-at = omega arith

  data-behind : field_at Dpd 5 p at ≡ at + 9 + 1 + get_or p (at + 9) 0
  unfolding field_at layout
  data-behind = ap (λ (x : ℕ). x + 1 + get_or p x 0) data-at

  property-at : field_at Dpt 3 p at ≡ at + 11
  unfolding field_at layout
  property-at = omega arith

  property-behind : field_at Dpt 4 p at ≡ at + 11 + 1 + get_or p (at + 11) 0
  unfolding field_at layout
  property-behind = ap (λ (x : ℕ). x + 1 + get_or p x 0) property-at

  data-text : (process_data_of p at).designator ≡ text_after p (at + 9)
  unfolding process_data_of
  data-text = ap (text_after p) data-at

  data_presentation : (process_data_of p at).presentation ≡ number_in 2 p (at + 9 + 1 + get_or p (at + 9) 0)
  unfolding process_data_of
  data_presentation = ap (number_in 2 p) data-behind

  property-text : (property_of p at).designator ≡ text_after p (at + 11)
  unfolding property_of
  property-text = ap (text_after p) property-at

  property_presentation : (property_of p at).presentation ≡ number_in 2 p (at + 11 + 1 + get_or p (at + 11) 0)
  unfolding property_of
  property_presentation = ap (number_in 2 p) property-behind

module _ (p : List ℕ) (es : List Entry) (k at text x : ℕ) (x-is : x ≡ number_in 2 p (text + 1 + get_or p text 0)) (sound : sound_text (take (text + 1 + get_or p text 0 - (text + 1)) (drop (text + 1) p)) ≡ true)
    (shown : AllClear (presented_rows es x)) (i : ℕ) (starts-at : at ≡ start_at es i) where
  pub data-looked : k ≡ 3 → text ≡ at + 9
      → not (ltb 7 (process_data_of p at).properties || bad_source (process_data_of p at).properties || ltb 31 (process_data_of p at).triggers) ≡ true
      → AllClear (kind_rows p es i k)
  data-looked e there fit =
      let d = process_data_of p at in
      let span : d.designator ≡ text_after p text = data-text p at ∙ sym (ap (text_after p) there) in
      let named-is : x ≡ d.presentation = x-is ∙ ap (λ (t : ℕ). number_in 2 p (t + 1 + get_or p t 0)) there ∙ sym (data_presentation p at) in
      rw (data-rows p es i at starts-at k e d refl)
      (clear-then (data_rows p d) (presented_rows es d.presentation) (data-clear p d fit (rw span sound)) (rw named-is at shown))

  pub property-looked : k ≡ 4 → text ≡ at + 11 → AllClear (kind_rows p es i k)
  property-looked e there =
      let d = property_of p at in
      let span : d.designator ≡ text_after p text = property-text p at ∙ sym (ap (text_after p) there) in
      let named-is : x ≡ d.presentation = x-is ∙ ap (λ (t : ℕ). number_in 2 p (t + 1 + get_or p t 0)) there ∙ sym (property_presentation p at) in
      rw (property-rows p es i at starts-at k e d refl)
      (clear-then (property_rows p d) (presented_rows es d.presentation) (property-clear p d (rw span sound)) (rw named-is at shown))
