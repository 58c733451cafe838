-- The rows of a record by its kind. Assumes nothing.
use mathlib.Core.Path.{◌≡◌, ◌∙◌}
use mathlib.Core.Bool.{not}
use mathlib.Core.List.{List, [], ◌++◌}
use Prim.Native.Nat.{ℕ, ◌+◌, ◌<◌}
use native.Mathlib.Numerals.{add-one}
use native.Mathlib.Omega.{arith}
use borrow.Author.Tests.{ne_eqb}
use lib.Dec.{eqb}
use lib.ListN.{length, get_or}
use Rattle.records.specs.Layout.{layout}
use Rattle.records.specs.Places.{field_at}
use Rattle.records.specs.declared.Device.{Device}
use Rattle.records.specs.declared.ProcessData.{ProcessData}
use Rattle.records.specs.declared.Property.{Property}
use Rattle.records.specs.declared.ValuePresentation.{ValuePresentation}
use Rattle.views.specs.Fields.{device_of, element_of, process_data_of, property_of, presentation_of}
use Rattle.pool.specs.Reading.{Entry}
use Rattle.naming.specs.Records.{start_at, kind_at}
use Rattle.naming.specs.Naming.{first_of}
use Rattle.rules.specs.Table.{repeats, device_rows, element_rows, data_rows, property_rows, value_rows, presented_rows, kind_rows}

-- a device's labels are not far from its start
pub near : (p : List ℕ) (at : ℕ) → ((i : ℕ) → get_or p i 0 < 256) → at < 65536 → (device_of p at).structure.from < 1048576
unfolding device_of field_at layout
near p at small h =
    let a = at + 3 + 2 in
    let b = a + 1 + get_or p a 0 in
    let c = b + 1 + get_or p b 0 + 8 in
    omega (arith, h, small a, small b, small c)

module _ (p : List ℕ) (es : List Entry) (i k : ℕ) where
  as-device : k ≡ 1 → kind_rows p es i k ≡ device_rows p (repeats (kind_at es) 1 i (length es)) (device_of p (start_at es i))
  unfolding kind_rows
  as-device e = rw e

  pub as-element : k ≡ 2 → kind_rows p es i k ≡ element_rows p es i (element_of p (start_at es i))
  unfolding kind_rows
  as-element e = rw e

  as-data : k ≡ 3 → kind_rows p es i k ≡ data_rows p (process_data_of p (start_at es i)) ++ presented_rows es (process_data_of p (start_at es i)).presentation
  unfolding kind_rows
  as-data e = rw e

  as-property : k ≡ 4 → kind_rows p es i k ≡ property_rows p (property_of p (start_at es i)) ++ presented_rows es (property_of p (start_at es i)).presentation
  unfolding kind_rows
  as-property e = rw e

  as-value : k ≡ 5 → kind_rows p es i k ≡ value_rows p (presentation_of p (start_at es i))
  unfolding kind_rows
  as-value e = rw e

  pub as_none : (k ≡ 1 → ⊥) → (k ≡ 2 → ⊥) → (k ≡ 3 → ⊥) → (k ≡ 4 → ⊥) → (k ≡ 5 → ⊥) → kind_rows p es i k ≡ []
  unfolding kind_rows
  as_none a b c d e = rw (ne_eqb k 1 a, ne_eqb k 2 b, ne_eqb k 3 c, ne_eqb k 4 d, ne_eqb k 5 e)

-- a device is not the first
devices-again : (es : List Entry) (device i : ℕ) → device ≡ first_of (kind_at es) 1 (length es) → not (eqb device (i + 1)) ≡ repeats (kind_at es) 1 i (length es)
unfolding repeats
devices-again es device i e = rw (e, add-one i)

module _ (p : List ℕ) (es : List Entry) (i at : ℕ) (starts-at : at ≡ start_at es i) where
  pub device-rows : (k : ℕ) → k ≡ 1 → (d : Device) → d ≡ device_of p at → (device : ℕ) → device ≡ first_of (kind_at es) 1 (length es)
      → kind_rows p es i k ≡ device_rows p (not (eqb device (i + 1))) d
  device-rows k e d is device first = as-device p es i k e ∙ rw (is, starts-at, devices-again es device i first)

  pub data-rows : (k : ℕ) → k ≡ 3 → (d : ProcessData) → d ≡ process_data_of p at → kind_rows p es i k ≡ data_rows p d ++ presented_rows es d.presentation
  data-rows k e d is = as-data p es i k e ∙ rw (is, starts-at)

  pub property-rows : (k : ℕ) → k ≡ 4 → (d : Property) → d ≡ property_of p at → kind_rows p es i k ≡ property_rows p d ++ presented_rows es d.presentation
  property-rows k e d is = as-property p es i k e ∙ rw (is, starts-at)

  pub value-rows : (k : ℕ) → k ≡ 5 → (v : ValuePresentation) → v ≡ presentation_of p at → kind_rows p es i k ≡ value_rows p v
  value-rows k e v is = as-value p es i k e ∙ rw (is, starts-at)
