-- The fields of a record by value, in annex A's terms. Definitions only.
use Rattle.std.specs.Prelude.{ℕ, ◌+◌, ◌-◌, ◌*◌, min, List, length, get_or, take, drop}
use Rattle.wire.specs.Bytes.{number_in, signed_of}
use Rattle.records.specs.Layout.{layout}
use Rattle.records.specs.Places.{field_at}
use Rattle.records.specs.declared.Kind.TheVariants.{Dvc, Det, Dpd, Dpt, Dvp}
use Rattle.records.specs.declared.Span.{Span}
use Rattle.records.specs.declared.Device.{Device}
use Rattle.records.specs.declared.DeviceElement.{DeviceElement}
use Rattle.records.specs.declared.ProcessData.{ProcessData}
use Rattle.records.specs.declared.Property.{Property}
use Rattle.records.specs.declared.ValuePresentation.{ValuePresentation}

-- the part of a pool that a text takes, after the length byte at a place
abbrev pub text_after : List ℕ → ℕ → Span
text_after p at = record { from = at + 1; to = at + 1 + get_or p at 0 }

-- the part of n bytes from a place on
abbrev pub bytes_at : ℕ → ℕ → Span
bytes_at n at = record { from = at; to = at + n }

-- the bytes of a part of a pool
abbrev pub part_of : List ℕ → Span → List ℕ
part_of p s = take (s.to - s.from) (drop s.from p)

-- how many bytes of a pool are before a span: up to its start, or all of them where it starts past the pool's end
abbrev pub start_in : List ℕ → Span → ℕ
start_in p s = min s.from (length p)

-- the fields of a device that starts at a place
unfoldable pub device_of : List ℕ → ℕ → Device
unfolding field_at layout
device_of p at =
    record {
      designator = text_after p (field_at Dvc 1 p at);
      version = text_after p (field_at Dvc 2 p at);
      name = number_in 8 p (field_at Dvc 3 p at);
      serial = text_after p (field_at Dvc 4 p at);
      structure = bytes_at 7 (field_at Dvc 5 p at);
      localization = bytes_at 7 (field_at Dvc 6 p at);
      extended = text_after p (field_at Dvc 7 p at);
    }

-- the fields of a device element that starts at a place
unfoldable pub element_of : List ℕ → ℕ → DeviceElement
unfolding field_at layout
element_of p at =
    record {
      element_type = get_or p (field_at Det 1 p at) 0;
      designator = text_after p (field_at Det 2 p at);
      number = number_in 2 p (field_at Det 3 p at);
      parent = number_in 2 p (field_at Det 4 p at);
      entries = number_in 2 p (field_at Det 5 p at);
    }

-- entry i of a device element's list, counted from 0; the entries follow their count
unfoldable pub entry_of : List ℕ → ℕ → ℕ → ℕ
unfolding field_at layout
entry_of p at i = number_in 2 p (field_at Det 5 p at + 2 + 2 * i)

-- the fields of process data that starts at a place
unfoldable pub process_data_of : List ℕ → ℕ → ProcessData
unfolding field_at layout
process_data_of p at =
    record {
      ddi = number_in 2 p (field_at Dpd 1 p at);
      properties = get_or p (field_at Dpd 2 p at) 0;
      triggers = get_or p (field_at Dpd 3 p at) 0;
      designator = text_after p (field_at Dpd 4 p at);
      presentation = number_in 2 p (field_at Dpd 5 p at);
    }

-- the fields of a property that starts at a place
unfoldable pub property_of : List ℕ → ℕ → Property
unfolding field_at layout
property_of p at =
    record {
      ddi = number_in 2 p (field_at Dpt 1 p at);
      value = signed_of 4 (number_in 4 p (field_at Dpt 2 p at));
      designator = text_after p (field_at Dpt 3 p at);
      presentation = number_in 2 p (field_at Dpt 4 p at);
    }

-- the fields of a value presentation that starts at a place
unfoldable pub presentation_of : List ℕ → ℕ → ValuePresentation
unfolding field_at layout
presentation_of p at =
    record {
      offset = signed_of 4 (number_in 4 p (field_at Dvp 1 p at));
      scale = number_in 4 p (field_at Dvp 2 p at);
      decimals = get_or p (field_at Dvp 3 p at) 0;
      unit = text_after p (field_at Dvp 4 p at);
    }
