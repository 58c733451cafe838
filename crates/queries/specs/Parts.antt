-- For the contracts of internal functions: no contract of a call rests on these. Definitions only.
use Rattle.std.specs.Prelude.{ℕ, suc, ◌≤◌, ◌≡◌, cond, List, eqb, length, Option, None, Some, Result, Ok, Err}
use Rattle.records.specs.declared.Span.{Span}
use Rattle.records.specs.declared.Device.{Device}
use Rattle.views.specs.Fields.{part_of}
use Rattle.pool.specs.Reading.{Entry}
use Rattle.pool.specs.Walk.{Listed}
use Rattle.checker.specs.Checking.{verdict_of, records_in, check_of, count_of}
use Rattle.pool.specs.declared.Refusal as Unread
use Rattle.checker.specs.declared.Checked.{Checked}
use Rattle.queries.specs.Queries.{refusal_in, refusal_number, number_of, span_of, carrier, text_of_record, padded}
use Rattle.queries.specs.declared.Refusal.{Refusal}
use Rattle.queries.specs.declared.DeviceLabels.{DeviceLabels}

-- the number, from 1, of a record counted from 0; 0 for none
abbrev pub numbered : Option ℕ → ℕ
numbered None = 0
numbered (Some i) = suc i

-- what a verdict says of a pool: it is accepted, with a count of records, or refused with a number that is not 0
abbrev pub Accepts : Result Checked Unread.Refusal → Result ℕ Refusal → Type 0
Accepts v (Ok count) = (refusal_in (verdict_of v) ≡ 0) × (count ≡ records_in v)
Accepts v (Err refusal) = (refusal_number refusal ≡ refusal_in (verdict_of v)) × (refusal_number refusal ≡ 0 → ⊥)

-- the answer to a query for a text among the records of a pool: 28 if none has the ID; its place lies within the pool
pub record FindsAmong (p : List ℕ) (es : List Entry) (id : ℕ) (r : Result Span Refusal) : Type 0 where
  pub number : number_of r ≡ cond (eqb (carrier es id) 0) 28 0
  pub from : (span_of r).from ≡ (text_of_record p es (carrier es id)).from
  pub to : (span_of r).to ≡ (text_of_record p es (carrier es id)).to
  pub ordered : (span_of r).from ≤ (span_of r).to
  pub within : (span_of r).to ≤ length p

-- a pool that has been checked for a table of room entries: v is the verdict on it, and starts the list of records that the check has
-- made
pub record CheckedBy (p : List ℕ) (room : ℕ) (starts : List ℕ) (v : Result Checked Unread.Refusal) : Type 0 where
  pub listed : Listed p room starts
  pub verdict : verdict_of v ≡ check_of p room
  pub records : records_in v ≡ count_of p room

-- an answer with the labels of a device
pub record LabelledBy (p : List ℕ) (d : Device) (r : DeviceLabels) : Type 0 where
  pub number : r.number ≡ 0
  pub structure : r.structure ≡ padded 7 (part_of p d.structure)
  pub localization : r.localization ≡ padded 7 (part_of p d.localization)
  pub extended : r.extended ≡ padded 32 (part_of p d.extended)
  pub count : r.extended_length ≡ length (part_of p d.extended)
