-- What is written reads back the same. Definitions only.
use Rattle.std.specs.Prelude.{ℕ, ◌^◌, ◌≤◌, ◌<◌, ◌≡◌, List, ℤ, pos, length, get_or, take}
use Rattle.std.proofs.lemmas.List.Edits.{sets}
use Rattle.std.specs.Int.Signed.{mag}
use Rattle.time_log.specs.Layout.{record_length}
use Rattle.log_reading.specs.Reading.{read_of, ordinals_after, values_after}
use Rattle.log_writing.specs.Writing.{kept_fields, write_refusal, bytes_after}
use Rattle.time_log.specs.declared.Fields.{Fields}

-- the fields are within the ranges of their types
pub record Typed (f : Fields) : Type 0 where
  pub time : f.time < 256 ^ 4
  pub days : f.days < 256 ^ 2
  pub north : mag f.north < 2 ^ 31
  pub east : mag f.east < 2 ^ 31
  pub up : mag f.up < 2 ^ 31
  pub status : f.status < 256 ^ 1
  pub pdop : f.pdop < 256 ^ 2
  pub hdop : f.hdop < 256 ^ 2
  pub satellites : f.satellites < 256 ^ 1
  pub gps_time : f.gps_time < 256 ^ 4
  pub gps_date : f.gps_date < 256 ^ 2

-- every record that is written, into bytes of any length, reads back into lists that are long enough: its length, its count,
-- its fields, of which those not marked are 0, its ordinals and its values
pub record ReadsBack : Type 0 where
  pub record_back : (to : List ℕ) (layout : ℕ) (f : Fields) (logged : ℕ) (os : List ℕ) (vs : List ℤ) (n : ℕ) (ps : List ℕ) (ws : List ℤ)
      → write_refusal layout f logged os vs n (length to) ≡ 0 → Typed f → ((i : ℕ) → mag (get_or vs i (pos 0)) < 2 ^ 31) → n ≤ length ps → n ≤ length ws
      → read_of layout logged (bytes_after to layout f logged os vs n) (length ps) (length ws) ≡ record { number = 0; length = record_length layout n; count = n; fields = kept_fields layout f }
  pub ordinals_back : (to : List ℕ) (layout : ℕ) (f : Fields) (logged : ℕ) (os : List ℕ) (vs : List ℤ) (n : ℕ) (ps : List ℕ) (ws : List ℤ)
      → write_refusal layout f logged os vs n (length to) ≡ 0 → Typed f → ((i : ℕ) → mag (get_or vs i (pos 0)) < 2 ^ 31) → n ≤ length ps → n ≤ length ws
      → ordinals_after layout logged (bytes_after to layout f logged os vs n) ps ws ≡ sets ps 0 (take n os)
  pub values_back : (to : List ℕ) (layout : ℕ) (f : Fields) (logged : ℕ) (os : List ℕ) (vs : List ℤ) (n : ℕ) (ps : List ℕ) (ws : List ℤ)
      → write_refusal layout f logged os vs n (length to) ≡ 0 → Typed f → ((i : ℕ) → mag (get_or vs i (pos 0)) < 2 ^ 31) → n ≤ length ps → n ≤ length ws
      → values_after layout logged (bytes_after to layout f logged os vs n) ps ws ≡ sets ws 0 (take n vs)
