-- The contents of a log record's bytes. Definitions only.
use Rattle.std.specs.Prelude.{ℕ, zero, suc, ◌+◌, List, [], ◌∷◌, ℤ, get_or}
use Rattle.wire.specs.Bytes.{number_in, signed_of}
use Rattle.time_log.specs.Layout.{part_width, place_of, record_length}
use Rattle.time_log.specs.declared.Fields.{Fields}

-- optional field k as a number; an absent field has no byte, and is therefore 0
unfoldable pub part_at : ℕ → List ℕ → ℕ → ℕ
part_at layout s k = number_in (part_width layout k) s (place_of layout k)

-- optional field k as a signed number: for north, east and up
abbrev pub signed_at : ℕ → List ℕ → ℕ → ℤ
signed_at layout s k = signed_of 4 (part_at layout s k)

-- the fields of a record: the time and the days, which are always present, and the optional ones
abbrev pub fields_at : ℕ → List ℕ → Fields
fields_at layout s =
    record {
      time = number_in 4 s 0;
      days = number_in 2 s 4;
      north = signed_at layout s 0;
      east = signed_at layout s 1;
      up = signed_at layout s 2;
      status = part_at layout s 3;
      pdop = part_at layout s 4;
      hdop = part_at layout s 5;
      satellites = part_at layout s 6;
      gps_time = part_at layout s 7;
      gps_date = part_at layout s 8;
    }

-- how many values a record has, from its count byte
abbrev pub values_counted : ℕ → List ℕ → ℕ
values_counted layout s = get_or s (place_of layout 9) 0

-- where the record that the bytes start with ends
abbrev pub extent_of : ℕ → List ℕ → ℕ
extent_of layout s = record_length layout (values_counted layout s)

-- n bytes from a place on, step bytes apart
unfoldable pub spaced : ℕ → ℕ → List ℕ → ℕ → List ℕ
spaced step zero s at = []
spaced step (suc n) s at = get_or s at 0 ∷ spaced step n s (at + step)

-- n signed numbers from a place on, five bytes apart
unfoldable pub signed_from : ℕ → List ℕ → ℕ → List ℤ
signed_from zero s at = []
signed_from (suc n) s at = signed_of 4 (number_in 4 s at) ∷ signed_from n s (at + 5)

-- the ordinals, after the count byte: ordinals of one byte and values of four alternate, so ordinals are five bytes apart
abbrev pub ordinals_at : ℕ → List ℕ → List ℕ
ordinals_at layout s = spaced 5 (values_counted layout s) s (place_of layout 9 + 1)

-- the values, each after its ordinal
abbrev pub values_at : ℕ → List ℕ → List ℤ
values_at layout s = signed_from (values_counted layout s) s (place_of layout 9 + 2)
