-- Reading one record into two lent lists. Definitions only.
use Rattle.std.specs.Prelude.{ℕ, Result, Ok, Err, cond, ◌||◌, List, eqb, ltb, ℤ, pos, length}
use Rattle.std.proofs.lemmas.List.Edits.{sets}
use Rattle.time_log.specs.Layout.{record_length}
use Rattle.time_log.specs.Contents.{fields_at, values_counted, ordinals_at, values_at}
use Rattle.time_log.specs.Judging.{record_refusal}
use Rattle.time_log.specs.declared.Fields.{Fields}
use Rattle.time_log.specs.Refusing.{refusal_number}
use Rattle.time_log.specs.declared.Refusal.{Refusal}
use Rattle.log_reading.specs.declared.Reading.{Reading}
use Rattle.log_reading.specs.declared.Record.{Record}

-- why a record is not read; 46, after all other refusals: a list has fewer elements than the record has values
unfoldable pub read_refusal : ℕ → ℕ → List ℕ → ℕ → ℕ → ℕ
read_refusal layout logged s ordinals values =
    cond (eqb (record_refusal layout logged s) 0)
    (cond (ltb ordinals (values_counted layout s) || ltb values (values_counted layout s)) 46 0)
    (record_refusal layout logged s)

-- fields that are all 0
abbrev pub no_fields : Fields
no_fields =
    record {
      time = 0;
      days = 0;
      north = pos 0;
      east = pos 0;
      up = pos 0;
      status = 0;
      pdop = 0;
      hdop = 0;
      satellites = 0;
      gps_time = 0;
      gps_date = 0;
    }

-- the answer with a refusal's number: everything else is 0
abbrev pub refused_by : ℕ → Record
refused_by n = record { number = n; length = 0; count = 0; fields = no_fields }

-- how C is told what reading a record answers
abbrev pub record_of : Result Reading Refusal → Record
record_of (Ok r) = record { number = 0; length = r.length; count = r.count; fields = r.fields }
record_of (Err refusal) = refused_by (refusal_number refusal)

-- the answer for a record that is read
abbrev pub whole_record : ℕ → List ℕ → Record
whole_record layout s = record { number = 0; length = record_length layout (values_counted layout s); count = values_counted layout s; fields = fields_at layout s }

-- what reading one record answers, given how many ordinals and values there is room for
unfoldable pub read_of : ℕ → ℕ → List ℕ → ℕ → ℕ → Record
read_of layout logged s ordinals values =
    cond (eqb (read_refusal layout logged s ordinals values) 0) (whole_record layout s) (refused_by (read_refusal layout logged s ordinals values))

-- the list of ordinals after the call: it starts with the record's, and later elements are as before; a refusal changes nothing
unfoldable pub ordinals_after : ℕ → ℕ → List ℕ → List ℕ → List ℤ → List ℕ
ordinals_after layout logged s ordinals values =
    cond (eqb (read_refusal layout logged s (length ordinals) (length values)) 0) (sets ordinals 0 (ordinals_at layout s)) ordinals

-- the list of values after the call, likewise
unfoldable pub values_after : ℕ → ℕ → List ℕ → List ℕ → List ℤ → List ℤ
values_after layout logged s ordinals values =
    cond (eqb (read_refusal layout logged s (length ordinals) (length values)) 0) (sets values 0 (values_at layout s)) values
