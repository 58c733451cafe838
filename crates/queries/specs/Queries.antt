-- Queries of an accepted pool, for its texts and labels: document 01, the last paragraph of "The rule table".
-- Definitions only.
use Rattle.std.specs.Prelude.{ℕ, zero, suc, ◌-◌, ◌≤◌, ◌≡◌, cond, List, [], ◌++◌, eqb, length, replicate, Result, Ok, Err}
use Rattle.records.specs.declared.Span.{Span}
use Rattle.records.specs.declared.Device.{Device}
use Rattle.views.specs.Fields.{part_of, device_of, element_of, process_data_of, property_of, presentation_of}
use Rattle.pool.specs.Answer.{Answer, refusal_answer}
use Rattle.pool.specs.Reading.{Entry, scan_of, entries_in}
use Rattle.naming.specs.Records.{start_at, id_at, kind_at}
use Rattle.naming.specs.Naming.{first_of}
use Rattle.checker.specs.Checking.{check_of}
use Rattle.queries.specs.declared.Refusal.{Refusal}
use Rattle.queries.specs.declared.Refusal.TheVariants.{Unread, Faulty, NoRecord}
use Rattle.queries.specs.declared.DeviceLabels.{DeviceLabels}

-- why a pool is not accepted, 0 if it is: reading's refusal, or 24 if checking counts a fault
abbrev pub refusal_in : Answer → ℕ
refusal_in a = cond (eqb a.number 0) (cond (eqb a.value 0) 0 24) a.number

-- the same for a pool, with a table of room entries
unfoldable pub acceptance : List ℕ → ℕ → ℕ
acceptance p room = refusal_in (check_of p room)

-- ---- texts

-- a part without bytes, at place 0
abbrev pub nowhere : Span
nowhere = record { from = 0; to = 0 }

-- a record's text, by the number of its kind: the designator, or the unit text of a value presentation
unfoldable pub asked_text : List ℕ → ℕ → ℕ → Span
asked_text p kind at =
    cond (eqb kind 1) (device_of p at).designator
    (cond (eqb kind 2) (element_of p at).designator
    (cond (eqb kind 3) (process_data_of p at).designator
    (cond (eqb kind 4) (property_of p at).designator
    (cond (eqb kind 5) (presentation_of p at).unit nowhere))))

-- the number, from 1, of the first record that has an ID, 0 for none. Any ID may be asked for, 65535 too
abbrev pub carrier : List Entry → ℕ → ℕ
carrier es id = first_of (id_at es) id (length es)

-- the text of the record with a number from 1
abbrev pub text_of_record : List ℕ → List Entry → ℕ → Span
text_of_record p es zero = nowhere
text_of_record p es (suc i) = asked_text p (kind_at es i) (start_at es i)

-- what a text query answers: 0, or why the pool is not accepted, or 28 if no record has the ID
unfoldable pub text_number : List ℕ → ℕ → ℕ → ℕ
text_number p room id =
    cond (eqb (acceptance p room) 0) (cond (eqb (carrier (entries_in (scan_of p)) id) 0) 28 0) (acceptance p room)

-- the place of the text in the pool; with a refusal, a part without bytes at place 0
unfoldable pub text_span : List ℕ → ℕ → ℕ → Span
text_span p room id =
    cond (eqb (acceptance p room) 0) (text_of_record p (entries_in (scan_of p)) (carrier (entries_in (scan_of p)) id)) nowhere

-- the bytes of the text
unfoldable pub text_of : List ℕ → ℕ → ℕ → List ℕ
text_of p room id = part_of p (text_span p room id)

-- the number of a refusal: that of reading, 24 for a pool with a fault, 28 if no record has the ID
abbrev pub refusal_number : Refusal → ℕ
refusal_number (Unread unread) = (refusal_answer unread).number
refusal_number Faulty = 24
refusal_number NoRecord = 28

-- the number of an answer, 0 or that of the refusal
abbrev pub number_of : Result Span Refusal → ℕ
number_of (Ok span) = 0
number_of (Err refusal) = refusal_number refusal

-- the place of an answer; with a refusal, a part without bytes at place 0
abbrev pub span_of : Result Span Refusal → Span
span_of (Ok span) = span
span_of (Err refusal) = nowhere

-- the answer to a text query: number and place; the place lies within the pool, whatever the answer is
pub record Finds (p : List ℕ) (room id : ℕ) (r : Result Span Refusal) : Type 0 where
  pub number : number_of r ≡ text_number p room id
  pub from : (span_of r).from ≡ (text_span p room id).from
  pub to : (span_of r).to ≡ (text_span p room id).to
  pub ordered : (span_of r).from ≤ (span_of r).to
  pub within : (span_of r).to ≤ length p

-- ---- labels

-- where the record with a number from 1 starts, 0 for number 0
abbrev pub start_of : List Entry → ℕ → ℕ
start_of es zero = 0
start_of es (suc i) = start_at es i

-- the fields of the device, which is the first record of kind 1: an accepted pool has one
unfoldable pub device_in : List ℕ → List Entry → Device
device_in p es = device_of p (start_of es (first_of (kind_at es) 1 (length es)))

-- bytes padded with zeros to w bytes
abbrev pub padded : ℕ → List ℕ → List ℕ
padded w t = t ++ replicate (w - length t) 0

-- a label's bytes if the pool is accepted (number 0), else no bytes
abbrev pub if_accepted : ℕ → List ℕ → List ℕ
if_accepted zero t = t
if_accepted (suc number) t = []

-- the labels are refused if the pool is not accepted, with the same number
abbrev pub labels_number : List ℕ → ℕ → ℕ
labels_number p room = acceptance p room

-- the structure label: seven bytes, zeros if the call is refused
unfoldable pub structure_label : List ℕ → ℕ → List ℕ
structure_label p room = padded 7 (if_accepted (labels_number p room) (part_of p (device_in p (entries_in (scan_of p))).structure))

-- the localization label, likewise
unfoldable pub localization_label : List ℕ → ℕ → List ℕ
localization_label p room = padded 7 (if_accepted (labels_number p room) (part_of p (device_in p (entries_in (scan_of p))).localization))

-- the bytes of the extended label that are used: as many as the device's length byte says
unfoldable pub extended_text : List ℕ → ℕ → List ℕ
extended_text p room = if_accepted (labels_number p room) (part_of p (device_in p (entries_in (scan_of p))).extended)

-- the extended label in 32 bytes, the unused ones 0
unfoldable pub extended_label : List ℕ → ℕ → List ℕ
extended_label p room = padded 32 (extended_text p room)

-- how many bytes of the extended label are used
unfoldable pub extended_count : List ℕ → ℕ → ℕ
extended_count p room = length (extended_text p room)

-- the answer to a query for the labels, field by field
pub record Labelled (p : List ℕ) (room : ℕ) (r : DeviceLabels) : Type 0 where
  pub number : r.number ≡ labels_number p room
  pub structure : r.structure ≡ structure_label p room
  pub localization : r.localization ≡ localization_label p room
  pub extended : r.extended ≡ extended_label p room
  pub count : r.extended_length ≡ extended_count p room
