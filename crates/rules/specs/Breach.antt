-- The rule table in its own words: what a breach is, by a pool's bytes and its records. Nothing here says how it is found.
-- Records are counted from 0 here and from 1 in a fault. Definitions only.
use Rattle.std.specs.Prelude.{ℕ, zero, suc, ◌+◌, ◌/◌, ◌%◌, ◌<◌, ◌≤◌, ◌≡◌, ◌⊎◌, List, length, get_or}
use Rattle.records.specs.Layout.{kind_code}
use Rattle.records.specs.declared.Kind.{Kind}
use Rattle.records.specs.declared.Kind.TheVariants.{Dvc, Det, Dpd, Dpt, Dvp}
use Rattle.records.specs.declared.Span.{Span}
use Rattle.views.specs.Fields.{part_of, device_of, element_of, entry_of, process_data_of, property_of, presentation_of}
use Rattle.text.specs.Examined.{Sound}
use Rattle.pool.specs.Reading.{Entry}
use Rattle.naming.specs.Records.{record_at, start_at, id_at}

-- there is a record i, and it is of this kind
pub record Is (es : List Entry) (k : Kind) (i : ℕ) : Type 0 where
  pub there : i < length es
  pub kind : (record_at es i).kind ≡ kind_code k

-- an ID names the earliest of the records that have it; the ID 65535 names none
pub record Names (es : List Entry) (x i : ℕ) : Type 0 where
  pub real : x ≡ 65535 → ⊥
  pub there : i < length es
  pub carries : id_at es i ≡ x
  pub first : (j : ℕ) → j < i → id_at es j ≡ x → ⊥

-- the texts that rule 4 is about, by item
pub data Text (p : List ℕ) (es : List Entry) (i : ℕ) : ℕ → Span → Type 0 where
  device_designator : Is es Dvc i → Text p es i 1 (device_of p (start_at es i)).designator
  device_version : Is es Dvc i → Text p es i 2 (device_of p (start_at es i)).version
  device_serial : Is es Dvc i → Text p es i 3 (device_of p (start_at es i)).serial
  element_designator : Is es Det i → Text p es i 1 (element_of p (start_at es i)).designator
  data_designator : Is es Dpd i → Text p es i 1 (process_data_of p (start_at es i)).designator
  property_designator : Is es Dpt i → Text p es i 1 (property_of p (start_at es i)).designator
  unit : Is es Dvp i → Text p es i 1 (presentation_of p (start_at es i)).unit

-- bit b of a number is set
abbrev pub Bit : ℕ → ℕ → Type 0
Bit zero x = x % 2 ≡ 1
Bit (suc b) x = Bit b (x / 2)

-- rule 5: a field out of its range, by item
pub data OutOfRange (p : List ℕ) (es : List Entry) (i : ℕ) : ℕ → Type 0 where
  -- device: 255 in the structure label or in the first six bytes of the localization label, or anything other than 255 in the seventh
  structure : {j : ℕ} → Is es Dvc i → j < 7 → get_or p ((device_of p (start_at es i)).structure.from + j) 0 ≡ 255 → OutOfRange p es i (1 + j)
  localization : {j : ℕ} → Is es Dvc i → j < 6 → get_or p ((device_of p (start_at es i)).localization.from + j) 0 ≡ 255 → OutOfRange p es i (8 + j)
  closing : Is es Dvc i → (get_or p ((device_of p (start_at es i)).localization.from + 6) 0 ≡ 255 → ⊥) → OutOfRange p es i 14
  -- device element: the type is not 1 to 7, the element number is over 4095
  type : Is es Det i → ((1 ≤ (element_of p (start_at es i)).element_type) × ((element_of p (start_at es i)).element_type ≤ 7) → ⊥) → OutOfRange p es i 1
  number : Is es Det i → 4095 < (element_of p (start_at es i)).number → OutOfRange p es i 2
  -- process data: a property bit above 2, settable together with control source, a trigger bit above 4
  property_bit : {b : ℕ} → Is es Dpd i → 2 < b → Bit b (process_data_of p (start_at es i)).properties → OutOfRange p es i 1
  both : Is es Dpd i → Bit 1 (process_data_of p (start_at es i)).properties → Bit 2 (process_data_of p (start_at es i)).properties → OutOfRange p es i 2
  trigger_bit : {b : ℕ} → Is es Dpd i → 4 < b → Bit b (process_data_of p (start_at es i)).triggers → OutOfRange p es i 3
  -- value presentation: the scale's bits as a number are outside the range, the decimals are over 7
  scale : Is es Dvp i → ((0x322BCC77 ≤ (presentation_of p (start_at es i)).scale) × ((presentation_of p (start_at es i)).scale ≤ 0x4CBEBC20) → ⊥) → OutOfRange p es i 1
  decimals : Is es Dvp i → 7 < (presentation_of p (start_at es i)).decimals → OutOfRange p es i 2

-- the roles of a reference
pub data Role : Type 0 where
  parent entry presentation : Role

-- which kinds fit: as parent a device or a device element, as entry process data or a property, as presentation a value presentation
abbrev pub Fits : Role → List Entry → ℕ → Type 0
Fits parent es i = Is es Dvc i ⊎ Is es Det i
Fits entry es i = Is es Dpd i ⊎ Is es Dpt i
Fits presentation es i = Is es Dvp i

-- rules 6 and 7: the references of a record, by item: a device element's parent and entries, and a presentation other than
-- 65535 of process data and of a property
pub data Refers (p : List ℕ) (es : List Entry) (i : ℕ) : ℕ → Role → ℕ → Type 0 where
  to_parent : Is es Det i → Refers p es i 1 parent (element_of p (start_at es i)).parent
  to_entry : {j : ℕ} → Is es Det i → j < (element_of p (start_at es i)).entries → Refers p es i (2 + j) entry (entry_of p (start_at es i) j)
  data_presentation : Is es Dpd i → ((process_data_of p (start_at es i)).presentation ≡ 65535 → ⊥)
      → Refers p es i 1 presentation (process_data_of p (start_at es i)).presentation
  property_presentation : Is es Dpt i → ((property_of p (start_at es i)).presentation ≡ 65535 → ⊥)
      → Refers p es i 1 presentation (property_of p (start_at es i)).presentation

-- rule 9: the parent of device element i is device element j
pub record Child (p : List ℕ) (es : List Entry) (i j : ℕ) : Type 0 where
  pub element : Is es Det i
  pub names : Names es (element_of p (start_at es i)).parent j
  pub parent : Is es Det j

-- n steps up from parent to parent lead from device element i to k
pub data Above (p : List ℕ) (es : List Entry) : ℕ → ℕ → ℕ → Type 0 where
  here : {i : ℕ} → Above p es 0 i i
  up : {n i j k : ℕ} → Child p es i j → Above p es n j k → Above p es (suc n) i k

-- the chain of parents never ends: any number of steps can be taken
abbrev pub Endless : List ℕ → List Entry → ℕ → Type 0
Endless p es i = (n : ℕ) → (j : ℕ) × Above p es n i j

-- rule 12: entry j of device element i names process data or a property of this DDI
pub data EntryDdi (p : List ℕ) (es : List Entry) (i j : ℕ) : ℕ → Type 0 where
  data_ddi : {k : ℕ} → Names es (entry_of p (start_at es i) j) k → Is es Dpd k → EntryDdi p es i j (process_data_of p (start_at es k)).ddi
  property_ddi : {k : ℕ} → Names es (entry_of p (start_at es i) j) k → Is es Dpt k → EntryDdi p es i j (property_of p (start_at es k)).ddi

-- the rule table, row by row: record (from 1, 0 for the whole pool), rule, item
pub data Breach (p : List ℕ) (es : List Entry) : ℕ → ℕ → ℕ → Type 0 where
  -- 1: a device's ID is not 0; another record's is 0 or 65535
  device_id : {i : ℕ} → Is es Dvc i → (id_at es i ≡ 0 → ⊥) → Breach p es (suc i) 1 1
  other_id : {i : ℕ} → i < length es → (Is es Dvc i → ⊥) → (id_at es i ≡ 0) ⊎ (id_at es i ≡ 65535) → Breach p es (suc i) 1 1
  -- 2: the ID has been used before
  same_id : {i j : ℕ} → i < length es → j < i → id_at es j ≡ id_at es i → Breach p es (suc i) 2 1
  -- 3: a device after an earlier device
  second_device : {i j : ℕ} → Is es Dvc i → j < i → Is es Dvc j → Breach p es (suc i) 3 1
  -- 4: a text is not sound
  unsound_text : {i item : ℕ} {s : Span} → Text p es i item s → (Sound (part_of p s) → ⊥) → Breach p es (suc i) 4 item
  -- 5: a field is out of range
  out_of_range : {i item : ℕ} → OutOfRange p es i item → Breach p es (suc i) 5 item
  -- 6: a reference names no record
  names_none : {i item x : ℕ} {r : Role} → Refers p es i item r x → ((j : ℕ) → Names es x j → ⊥) → Breach p es (suc i) 6 item
  -- 7: a reference names a record of a kind that does not fit
  wrong_kind : {i item x j : ℕ} {r : Role} → Refers p es i item r x → Names es x j → (Fits r es j → ⊥) → Breach p es (suc i) 7 item
  -- 8: an earlier device element has the same element number
  same_number : {i j : ℕ} → Is es Det i → j < i → Is es Det j → (element_of p (start_at es j)).number ≡ (element_of p (start_at es i)).number
      → Breach p es (suc i) 8 1
  -- 9: the chain of parents never ends
  endless : {i : ℕ} → Is es Det i → Endless p es i → Breach p es (suc i) 9 1
  -- 10: no device
  no_device : ((i : ℕ) → Is es Dvc i → ⊥) → Breach p es 0 10 1
  -- 11: no device element of type 1
  no_device_element : ((i : ℕ) → Is es Det i → (element_of p (start_at es i)).element_type ≡ 1 → ⊥) → Breach p es 0 11 1
  -- 12: an entry names process data or a property of the DDI that an earlier entry of the list names
  same_ddi : {i j k ddi : ℕ} → Is es Det i → k < (element_of p (start_at es i)).entries → j < k → EntryDdi p es i j ddi → EntryDdi p es i k ddi
      → Breach p es (suc i) 12 (2 + k)
