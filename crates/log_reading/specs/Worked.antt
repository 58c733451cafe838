-- Worked records: the example of 000's D.49, one with all nine marks and no equal bytes, and each limit from both sides. Definitions only.
use Rattle.std.specs.Prelude.{ℕ, ◌≡◌, List, [], ◌∷◌, ◌++◌, ℤ, pos, negsuc, take}
use Rattle.wire.specs.Bytes.{bytes_of, bits_of}
use Rattle.time_log.specs.Judging.{record_refusal}
use Rattle.log_reading.specs.Reading.{read_of, ordinals_after, values_after}
use Rattle.log_reading.specs.Logs.{whole_log, bad_log, log_of}

-- 2005-05-02 16:32:00, 51.00678 north, 6.03489 east, status 1, and the values 10 and 15
abbrev pub example : List ℕ
example =
    0x00 ∷ 0x34 ∷ 0x8C ∷ 0x03 ∷ 0x25 ∷ 0x24 ∷ 0x58 ∷ 0x04 ∷ 0x67 ∷ 0x1E ∷ 0xE4 ∷ 0xD9 ∷ 0x98 ∷ 0x03 ∷ 0x01 ∷ 0x02 ∷ 0x00 ∷ 0x0A ∷ 0x00 ∷ 0x00 ∷ 0x00 ∷ 0x01 ∷ 0x0F ∷ 0x00 ∷ 0x00 ∷ 0x00 ∷ []

-- all nine fields and two values, no two bytes alike
abbrev pub full : List ℕ
full =
    0x10 ∷ 0x11 ∷ 0x12 ∷ 0x05 ∷ 0x13 ∷ 0x14 ∷ 0xF5 ∷ 0xF6 ∷ 0xF7 ∷ 0xF8 ∷ 0x15 ∷ 0x16 ∷ 0x17 ∷ 0x18 ∷ 0xF1 ∷ 0xF2 ∷ 0xF3 ∷ 0xF4 ∷ 0x08 ∷ 0x19 ∷ 0x1A ∷ 0x1B ∷ 0x1C ∷ 0x1D ∷ 0x1E ∷ 0x1F ∷ 0x20 ∷ 0x21 ∷ 0x22 ∷ 0x23 ∷ 0x02 ∷ 0x00 ∷ 0x24 ∷ 0x25 ∷ 0x26 ∷ 0x27 ∷ 0x01 ∷ 0xF9 ∷ 0xFA ∷ 0xFB ∷ 0xFC ∷ []

-- the refusal, or 0, of a record with a time, north, east, a status and one value, if the header counts two log values
abbrev pub judged : ℕ → ℤ → ℤ → ℕ → ℕ → ℕ
judged time north east status ordinal =
    record_refusal 0x00B 2
    (bytes_of 4 time ++ (0x25 ∷ 0x24 ∷ (bytes_of 4 (bits_of 4 north) ++ (bytes_of 4 (bits_of 4 east) ++ (status ∷ 1 ∷ ordinal ∷ 0 ∷ 0 ∷ 0 ∷ 0 ∷ [])))))

-- what is read from both, as records and as logs
pub record RecordsRead : Type 0 where
  pub example_read : read_of 0x00B 2 example 2 2 ≡ record { number = 0; length = 26; count = 2; fields = record { time = 59520000; days = 9253; north = pos 510067800; east = pos 60348900; up = pos 0; status = 1; pdop = 0; hdop = 0; satellites = 0; gps_time = 0; gps_date = 0 } }
  pub example_ordinals : ordinals_after 0x00B 2 example (9 ∷ 9 ∷ 9 ∷ []) (pos 9 ∷ pos 9 ∷ []) ≡ 0 ∷ 1 ∷ 9 ∷ []
  pub example_values : values_after 0x00B 2 example (9 ∷ 9 ∷ 9 ∷ []) (pos 9 ∷ pos 9 ∷ []) ≡ pos 10 ∷ pos 15 ∷ []
  pub full_read : read_of 0x1FF 2 full 2 2 ≡ record { number = 0; length = 41; count = 2; fields = record { time = 0x05121110; days = 0x1413; north = negsuc 0x0708090A; east = pos 0x18171615; up = negsuc 0x0B0C0D0E; status = 8; pdop = 0x1A19; hdop = 0x1C1B; satellites = 0x1D; gps_time = 0x21201F1E; gps_date = 0x2322 } }
  pub full_ordinals : ordinals_after 0x1FF 2 full (9 ∷ 9 ∷ []) (pos 9 ∷ pos 9 ∷ pos 9 ∷ []) ≡ 0 ∷ 1 ∷ []
  pub full_values : values_after 0x1FF 2 full (9 ∷ 9 ∷ []) (pos 9 ∷ pos 9 ∷ pos 9 ∷ []) ≡ pos 0x27262524 ∷ negsuc 0x03040506 ∷ pos 9 ∷ []
  pub log_read : log_of 0x00B 2 (example ++ example) ≡ whole_log 2
  pub log_cut : log_of 0x00B 2 (example ++ take 25 example) ≡ bad_log 40 26

-- each limit from both sides; if several values are out of range, the first in the order of the fields is refused (negsuc n is -1 - n)
pub record LimitsJudged : Type 0 where
  pub upper : judged 86399999 (pos 900000000) (pos 1800000000) 8 1 ≡ 0
  pub lower : judged 0 (negsuc 899999999) (negsuc 1799999999) 0 0 ≡ 0
  pub other_status : (judged 0 (pos 0) (pos 0) 14 0 ≡ 0) × (judged 0 (pos 0) (pos 0) 15 0 ≡ 0)
  pub time : judged 86400000 (pos 900000001) (pos 1800000001) 9 2 ≡ 41
  pub north : (judged 0 (pos 900000001) (pos 1800000001) 9 2 ≡ 42) × (judged 0 (negsuc 900000000) (negsuc 1800000000) 9 2 ≡ 42)
  pub east : (judged 0 (pos 0) (pos 1800000001) 9 2 ≡ 43) × (judged 0 (pos 0) (negsuc 1800000000) 9 2 ≡ 43)
  pub status : (judged 0 (pos 0) (pos 0) 9 2 ≡ 44) × (judged 0 (pos 0) (pos 0) 13 2 ≡ 44) × (judged 0 (pos 0) (pos 0) 16 2 ≡ 44)
  pub ordinal : judged 0 (pos 0) (pos 0) 8 2 ≡ 45

-- the worked records as one claim
pub record WorkedRecords : Type 0 where
  pub read : RecordsRead
  pub limits : LimitsJudged
