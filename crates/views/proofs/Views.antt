-- A record's fields, from the bytes at each place. Assumes nothing.
use mathlib.Core.Path.{◌≡◌}
use mathlib.Core.List.{List}
use Prim.Native.Nat.{ℕ, ◌+◌, ◌*◌}
use lib.IntN.{ℤ}
use lib.ListN.{get_or}
use Rattle.wire.specs.Bytes.{number_in, signed_of}
use Rattle.records.specs.Layout.{layout}
use Rattle.records.specs.Places.{field_at}
use Rattle.records.specs.declared.Span.{Span}
use Rattle.records.specs.declared.Device.{Device}
use Rattle.records.specs.declared.DeviceElement.{DeviceElement}
use Rattle.records.specs.declared.ProcessData.{ProcessData}
use Rattle.records.specs.declared.Property.{Property}
use Rattle.records.specs.declared.ValuePresentation.{ValuePresentation}
use Rattle.views.specs.Fields.{text_after, bytes_at, device_of, element_of, entry_of, process_data_of, property_of, presentation_of}

module _ (p : List ℕ) (at : ℕ) where
  pub device-view : (d v s e : Span) (n : ℕ)
      → d ≡ text_after p (at + 3 + 2) → v ≡ text_after p d.to → n ≡ number_in 8 p v.to → s ≡ text_after p (v.to + 8) → e ≡ text_after p (s.to + 7 + 7)
      → ◌≡◌ {A = Device} (record { designator = d; version = v; name = n; serial = s; structure = bytes_at 7 s.to; localization = bytes_at 7 (s.to + 7); extended = e }) (device_of p at)
  unfolding device_of field_at layout
  device-view d v s e n hd hv hn hs he = cc

  pub element-view : (d : Span) (t n q m : ℕ)
      → t ≡ get_or p (at + 3 + 2) 0 → d ≡ text_after p (at + 3 + 2 + 1) → n ≡ number_in 2 p d.to → q ≡ number_in 2 p (d.to + 2) → m ≡ number_in 2 p (d.to + 2 + 2)
      → ◌≡◌ {A = DeviceElement} (record { element_type = t; designator = d; number = n; parent = q; entries = m }) (element_of p at)
  unfolding element_of field_at layout
  element-view d t n q m ht hd hn hq hm = cc

  pub entries-view : (d : Span) → d ≡ text_after p (at + 3 + 2 + 1) → (i : ℕ) → entry_of p at i ≡ number_in 2 p (d.to + 2 + 2 + 2 + 2 * i)
  unfolding entry_of field_at layout
  entries-view d hd i = rw hd

  pub process-data-view : (d : Span) (n a b q : ℕ)
      → n ≡ number_in 2 p (at + 3 + 2) → a ≡ get_or p (at + 3 + 2 + 2) 0 → b ≡ get_or p (at + 3 + 2 + 2 + 1) 0 → d ≡ text_after p (at + 3 + 2 + 2 + 1 + 1) → q ≡ number_in 2 p d.to
      → ◌≡◌ {A = ProcessData} (record { ddi = n; properties = a; triggers = b; designator = d; presentation = q }) (process_data_of p at)
  unfolding process_data_of field_at layout
  process-data-view d n a b q hn ha hb hd hq = cc

  pub property-view : (d : Span) (n q : ℕ) (v : ℤ)
      → n ≡ number_in 2 p (at + 3 + 2) → v ≡ signed_of 4 (number_in 4 p (at + 3 + 2 + 2)) → d ≡ text_after p (at + 3 + 2 + 2 + 4) → q ≡ number_in 2 p d.to
      → ◌≡◌ {A = Property} (record { ddi = n; value = v; designator = d; presentation = q }) (property_of p at)
  unfolding property_of field_at layout
  property-view d n q v hn hv hd hq = cc

  pub presentation-view : (u : Span) (s k : ℕ) (o : ℤ)
      → o ≡ signed_of 4 (number_in 4 p (at + 3 + 2)) → s ≡ number_in 4 p (at + 3 + 2 + 4) → k ≡ get_or p (at + 3 + 2 + 4 + 4) 0 → u ≡ text_after p (at + 3 + 2 + 4 + 4 + 1)
      → ◌≡◌ {A = ValuePresentation} (record { offset = o; scale = s; decimals = k; unit = u }) (presentation_of p at)
  unfolding presentation_of field_at layout
  presentation-view u s k o ho hs hk hu = cc
