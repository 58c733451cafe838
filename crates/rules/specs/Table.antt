-- The rule table as rows of tests, kind by kind, and the breach list. It is proved that it lists exactly the breaches, each once and
-- in order. Definitions only.
use Rattle.std.specs.Prelude.{ℕ, zero, suc, ◌+◌, ◌/◌, ◌%◌, Bool, cond, not, ◌&&◌, ◌||◌, List, [], ◌∷◌, ◌++◌, eqb, ltb, leb, length, get_or}
use Rattle.records.specs.declared.Span.{Span}
use Rattle.records.specs.declared.Device.{Device}
use Rattle.records.specs.declared.DeviceElement.{DeviceElement}
use Rattle.records.specs.declared.ProcessData.{ProcessData}
use Rattle.records.specs.declared.Property.{Property}
use Rattle.records.specs.declared.ValuePresentation.{ValuePresentation}
use Rattle.views.specs.Fields.{part_of, device_of, element_of, entry_of, process_data_of, property_of, presentation_of}
use Rattle.text.specs.Examined.{sound_text}
use Rattle.faults.specs.Faults.{Fault}
use Rattle.faults.specs.Rows.{Row, one, many, in_records}
use Rattle.pool.specs.Reading.{Entry, scan_of, entries_in}
use Rattle.naming.specs.Records.{start_at, id_at, kind_at}
use Rattle.naming.specs.Naming.{first_of, type_key, named, kind_of, parent_of, climb, is_data_kind, tag_of, among}
pub use Rattle.naming.specs.Naming.{element_key}

-- record i is not the first of n records with the key x
unfoldable pub repeats : (ℕ → ℕ) → ℕ → ℕ → ℕ → Bool
repeats key x i n = not (eqb (first_of key x n) (suc i))

-- an ID that only a device may have (0) or that names nothing (65535)
abbrev pub bad_id : ℕ → Bool
bad_id x = eqb x 0 || eqb x 65535

-- rule 4: a text is not sound
unfoldable pub unsound : List ℕ → Span → Bool
unsound p s = not (sound_text (part_of p s))

-- label byte j of a device's fourteen is bad: the last one has to be 255, the others must not be
abbrev pub bad_label : List ℕ → ℕ → ℕ → Bool
bad_label p at j = cond (ltb j 13) (eqb (get_or p (at + j) 0) 255) (not (eqb (get_or p (at + j) 0) 255))

-- the bits of a scale, as a number, are outside the range
abbrev pub bad_scale : ℕ → Bool
bad_scale x = ltb x 0x322BCC77 || ltb 0x4CBEBC20 x

-- settable and control source are both set
abbrev pub bad_source : ℕ → Bool
bad_source x = eqb (x / 2 % 4) 3

-- a kind that fits a parent: a device or a device element
abbrev pub is_parent_kind : ℕ → Bool
is_parent_kind k = eqb k 1 || eqb k 2

-- rule 7: a reference names record number r, and its kind is not right
abbrev pub is_wrong_kind : Bool → ℕ → Bool
is_wrong_kind right r = not (eqb r 0) && not right

-- entry m of a list names a DDI that an earlier entry names
unfoldable pub doubled : (ℕ → ℕ) → ℕ → Bool
doubled tag m = not (eqb (tag m) 0) && among tag (tag m) m

-- rules 1 and 2 of any record
abbrev pub own_rows : Bool → Bool → List Row
own_rows bad again = one 1 1 bad ∷ one 2 1 again ∷ []

-- rules 3, 4 and 5 of a device
abbrev pub device_rows : List ℕ → Bool → Device → List Row
device_rows p again d =
    one 3 1 again
    ∷ one 4 1 (unsound p d.designator)
    ∷ one 4 2 (unsound p d.version)
    ∷ one 4 3 (unsound p d.serial)
    ∷ many 5 1 14 (bad_label p d.structure.from)
    ∷ []

-- rules 4 and 5 of a device element
abbrev pub field_rows : List ℕ → DeviceElement → List Row
field_rows p e =
    one 4 1 (unsound p e.designator)
    ∷ one 5 1 (not (leb 1 e.element_type && leb e.element_type 7))
    ∷ one 5 2 (ltb 4095 e.number)
    ∷ []

-- rules 6 and 7 of a device element, by the numbers of the records that its parent and its entries name, and the kinds of records
abbrev pub reference_rows : (ℕ → ℕ) → ℕ → (ℕ → ℕ) → ℕ → List Row
reference_rows kind parent entry n =
    one 6 1 (eqb parent 0)
    ∷ many 6 2 n (λ (m : ℕ). eqb (entry m) 0)
    ∷ one 7 1 (is_wrong_kind (is_parent_kind (kind parent)) parent)
    ∷ many 7 2 n (λ (m : ℕ). is_wrong_kind (is_data_kind (kind (entry m))) (entry m))
    ∷ []

-- rules 8, 9 and 12 of a device element; rule 12 by the tags of the records that its entries name
abbrev pub list_rows : Bool → Bool → (ℕ → ℕ) → ℕ → List Row
list_rows again endless tag n = one 8 1 again ∷ one 9 1 endless ∷ many 12 2 n (doubled tag) ∷ []

-- rules 6 and 7 of a presentation, by its ID, the number of the record that it names and that record's kind; 65535 means no presentation
abbrev pub presentation_rows : ℕ → ℕ → ℕ → List Row
presentation_rows x r k = one 6 1 (not (eqb x 65535) && eqb r 0) ∷ one 7 1 (is_wrong_kind (eqb k 5) r) ∷ []

-- rules 4 and 5 of process data
abbrev pub data_rows : List ℕ → ProcessData → List Row
data_rows p d =
    one 4 1 (unsound p d.designator)
    ∷ one 5 1 (ltb 7 d.properties)
    ∷ one 5 2 (bad_source d.properties)
    ∷ one 5 3 (ltb 31 d.triggers)
    ∷ []

-- rule 4 of a property
abbrev pub property_rows : List ℕ → Property → List Row
property_rows p d = one 4 1 (unsound p d.designator) ∷ []

-- rules 4 and 5 of a value presentation
abbrev pub value_rows : List ℕ → ValuePresentation → List Row
value_rows p v = one 4 1 (unsound p v.unit) ∷ one 5 1 (bad_scale v.scale) ∷ one 5 2 (ltb 7 v.decimals) ∷ []

-- the number, from 1, of the record that entry m names, in the list of the device element at a place; 0 for none
abbrev pub entry_named : List ℕ → List Entry → ℕ → ℕ → ℕ
entry_named p es at m = named es (entry_of p at m)

-- rules 6 and 7 of a presentation, by its ID
abbrev pub presented_rows : List Entry → ℕ → List Row
presented_rows es x = presentation_rows x (named es x) (kind_of es (named es x))

-- all rules of a device element except 1 and 2
abbrev pub element_rows : List ℕ → List Entry → ℕ → DeviceElement → List Row
element_rows p es i e =
    field_rows p e
    ++ reference_rows (kind_of es) (named es e.parent) (entry_named p es (start_at es i)) e.entries
    ++ list_rows
    (repeats (element_key p es) (suc e.number) i (length es))
    (not (eqb (climb (parent_of p es) (length es) (suc i)) 0))
    (λ (m : ℕ). tag_of p es (entry_named p es (start_at es i) m))
    e.entries

-- the rows of record i after rules 1 and 2, by the number of its kind
unfoldable pub kind_rows : List ℕ → List Entry → ℕ → ℕ → List Row
kind_rows p es i k =
    let at = start_at es i in
    cond (eqb k 1) (device_rows p (repeats (kind_at es) 1 i (length es)) (device_of p at))
    (cond (eqb k 2) (element_rows p es i (element_of p at))
    (cond (eqb k 3) (data_rows p (process_data_of p at) ++ presented_rows es (process_data_of p at).presentation)
    (cond (eqb k 4) (property_rows p (property_of p at) ++ presented_rows es (property_of p at).presentation)
    (cond (eqb k 5) (value_rows p (presentation_of p at)) []))))

-- rule 1: the ID x of a record of kind k is not allowed
abbrev pub bad_own : ℕ → ℕ → Bool
bad_own k x = cond (eqb k 1) (not (eqb x 0)) (bad_id x)

-- all rules of a record, in their order
abbrev pub record_rows : List ℕ → List Entry → ℕ → List Row
record_rows p es i =
    own_rows (bad_own (kind_at es i) (id_at es i)) (repeats (id_at es) (id_at es i) i (length es)) ++ kind_rows p es i (kind_at es i)

-- the rules of the pool as a whole: no device; no device element of type 1
abbrev pub pool_rows : List ℕ → List Entry → List Row
pool_rows p es = one 10 1 (eqb (first_of (kind_at es) 1 (length es)) 0) ∷ one 11 1 (eqb (first_of (type_key p es) 1 (length es)) 0) ∷ []

-- the rows of a record by its number in a fault; 0 is the whole pool
abbrev pub rows_of : List ℕ → List Entry → ℕ → List Row
rows_of p es zero = pool_rows p es
rows_of p es (suc i) = record_rows p es i

-- the breach list for a list of records
unfoldable pub breaches_in : List ℕ → List Entry → List Fault
breaches_in p es = in_records (rows_of p es) (suc (length es))

-- the breach list of a pool
unfoldable pub breaches_of : List ℕ → List Fault
breaches_of p = breaches_in p (entries_in (scan_of p))
