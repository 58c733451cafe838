-- Writing a record: its bytes, and why it is refused. Definitions only.
use Rattle.std.specs.Prelude.{ℕ, Result, Ok, Err, zero, suc, ◌+◌, cond, ◌||◌, List, [], ◌∷◌, ◌++◌, eqb, ltb, ℤ, pos, length, get_or, take}
use Rattle.std.proofs.lemmas.List.Edits.{sets}
use Rattle.wire.specs.Bytes.{bytes_of, bits_of}
use Rattle.time_log.specs.Layout.{part_width, record_length}
use Rattle.time_log.specs.Judging.{one_over, refusal_of_fields}
use Rattle.time_log.specs.Refusing.{refusal_number}
use Rattle.time_log.specs.declared.Fields.{Fields}
use Rattle.time_log.specs.declared.Refusal.{Refusal}
use Rattle.log_writing.specs.declared.Written.{Written}

-- optional field k as it is judged and written: 0 if the layout does not mark it, whatever is passed for it
abbrev pub number_kept : ℕ → ℕ → ℕ → ℕ
number_kept layout k x = cond (eqb (part_width layout k) 0) 0 x

-- the same for a signed field
abbrev pub signed_kept : ℕ → ℕ → ℤ → ℤ
signed_kept layout k z = cond (eqb (part_width layout k) 0) (pos 0) z

-- all fields as they are judged and written; time and days are always present
abbrev pub kept_fields : ℕ → Fields → Fields
kept_fields layout f =
    record {
      time = f.time;
      days = f.days;
      north = signed_kept layout 0 f.north;
      east = signed_kept layout 1 f.east;
      up = signed_kept layout 2 f.up;
      status = number_kept layout 3 f.status;
      pdop = number_kept layout 4 f.pdop;
      hdop = number_kept layout 5 f.hdop;
      satellites = number_kept layout 6 f.satellites;
      gps_time = number_kept layout 7 f.gps_time;
      gps_date = number_kept layout 8 f.gps_date;
    }

-- optional field k as the number whose bytes are written
abbrev pub field_bits : Fields → ℕ → ℕ
field_bits f k =
    get_or
    (bits_of 4 f.north ∷ bits_of 4 f.east ∷ bits_of 4 f.up ∷ f.status ∷ f.pdop ∷ f.hdop ∷ f.satellites ∷ f.gps_time ∷ f.gps_date ∷ [])
    k
    0

-- the bytes before optional field k; for k = 9 these are all fields
unfoldable pub bytes_before : ℕ → Fields → ℕ → List ℕ
bytes_before layout f zero = bytes_of 4 f.time ++ bytes_of 2 f.days
bytes_before layout f (suc k) = bytes_before layout f k ++ bytes_of (part_width layout k) (field_bits f k)

-- n ordinals from the i-th on, each followed by its value
unfoldable pub pairs_from : List ℕ → List ℤ → ℕ → ℕ → List ℕ
pairs_from os vs i zero = []
pairs_from os vs i (suc n) = get_or os i 0 ∷ (bytes_of 4 (bits_of 4 (get_or vs i (pos 0))) ++ pairs_from os vs (i + 1) n)

-- the bytes of a record: the fields that the layout marks, the count, and the ordinals with their values
unfoldable pub record_bytes : ℕ → Fields → ℕ → List ℕ → List ℤ → List ℕ
record_bytes layout f n os vs = bytes_before layout f 9 ++ (n ∷ pairs_from os vs 0 n)

-- why a record is not written: 47; 48 if there are more values than 255 or than a list has; 41 to 45 for what is written; 46 for no room
unfoldable pub write_refusal : ℕ → Fields → ℕ → List ℕ → List ℤ → ℕ → ℕ → ℕ
write_refusal layout f logged os vs n room =
    cond (ltb 511 layout) 47
    (cond (ltb 255 n || (ltb (length os) n || ltb (length vs) n)) 48
    (cond (eqb (refusal_of_fields (kept_fields layout f) (one_over logged (take n os))) 0) (cond (ltb room (record_length layout n)) 46 0)
    (refusal_of_fields (kept_fields layout f) (one_over logged (take n os)))))

-- how C is told what writing a record answers
abbrev pub written_of : Result ℕ Refusal → Written
written_of (Ok long) = record { number = 0; length = long }
written_of (Err refusal) = record { number = refusal_number refusal; length = 0 }

-- what writing answers: the number, and the record's length if it is written
abbrev pub written_as : ℕ → ℕ → Written
written_as x long = record { number = x; length = cond (eqb x 0) long 0 }

-- the lent bytes afterwards: they start with the record, and later bytes are as before; a refusal changes nothing
unfoldable pub bytes_after : List ℕ → ℕ → Fields → ℕ → List ℕ → List ℤ → ℕ → List ℕ
bytes_after to layout f logged os vs n =
    cond (eqb (write_refusal layout f logged os vs n (length to)) 0) (sets to 0 (record_bytes layout (kept_fields layout f) n os vs)) to
