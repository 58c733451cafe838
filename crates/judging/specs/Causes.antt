-- What can be wrong with a command to the device, in the words of document 01, the last paragraph of "Process data messages": a cause
-- for each error byte, and which error byte is given. Nothing here says how a cause is found. Records are counted from 0. Definitions only.
use Rattle.std.specs.Prelude.{ℕ, ◌<◌, ◌≤◌, ◌≡◌, ◌↔◌, List, [], ◌∷◌, ℤ, negsuc}
use Rattle.records.specs.declared.Kind.TheVariants.{Det, Dpd, Dpt}
use Rattle.views.specs.Fields.{element_of, entry_of, process_data_of, property_of}
use Rattle.pool.specs.Reading.{Entry, scan_of, entries_in}
use Rattle.naming.specs.Records.{start_at}
use Rattle.rules.specs.Breach.{Is, Names, Bit}
use Rattle.queries.specs.Queries.{acceptance}
use Rattle.judging.specs.Judging.{error_of, judge_number, judge_error}

-- ---- commands

-- the commands that carry a value: 2 to 8 and A
pub data Carries : ℕ → Type 0 where
  two : Carries 2
  three : Carries 3
  four : Carries 4
  five : Carries 5
  six : Carries 6
  seven : Carries 7
  eight : Carries 8
  ten : Carries 0xA

-- the commands that set a value
pub data Sets : ℕ → Type 0 where
  three : Sets 3
  ten : Sets 0xA

-- the commands that start a measurement, each with the trigger bit that it needs
pub data Needs : ℕ → ℕ → Type 0 where
  four : Needs 4 0
  five : Needs 5 1
  six : Needs 6 2
  seven : Needs 7 2
  eight : Needs 8 3

-- the commands whose value is an interval, of time or of distance
pub data Interval : ℕ → Type 0 where
  four : Interval 4
  five : Interval 5

-- a value below 0: `negsuc n` is -(n + 1)
pub data Negative : ℤ → Type 0 where
  below : {n : ℕ} → Negative (negsuc n)

-- ---- the device element and the object of a command

module _ (p : List ℕ) (es : List Entry) where
  -- record i is a device element with this element number
  pub record Numbered (element i : ℕ) : Type 0 where
    pub is : Is es Det i
    pub number : (element_of p (start_at es i)).number ≡ element

  -- record j is process data or a property of this DDI
  pub data OfDdi (j : ℕ) : ℕ → Type 0 where
    data_ddi : Is es Dpd j → OfDdi j (process_data_of p (start_at es j)).ddi
    property_ddi : Is es Dpt j → OfDdi j (property_of p (start_at es j)).ddi

  -- record j is process data or a property of this DDI, and an entry in the list of device element i names it
  pub record InList (i ddi j : ℕ) : Type 0 where
    pub entry : ℕ
    pub there : entry < (element_of p (start_at es i)).entries
    pub names : Names es (entry_of p (start_at es i) entry) j
    pub is : OfDdi j ddi

  -- record j is the object of a command: it is in the list of the device element with this number
  pub record Object (element ddi j : ℕ) : Type 0 where
    pub owner : ℕ
    pub numbered : Numbered element owner
    pub listed : InList owner ddi j

  -- process data is settable if its property bit 1 is set; a property never is
  pub record Settable (j : ℕ) : Type 0 where
    pub is : Is es Dpd j
    pub bit : Bit 1 (process_data_of p (start_at es j)).properties

  -- process data has a trigger if that bit is set; a property has none
  pub record Triggered (j b : ℕ) : Type 0 where
    pub is : Is es Dpd j
    pub bit : Bit b (process_data_of p (start_at es j)).triggers

  -- the cause of each error byte; several may apply
  pub data Cause (command element ddi : ℕ) (value : ℤ) : ℕ → Type 0 where
    -- the command is none of 2 to 8 and A
    no_value : (Carries command → ⊥) → Cause command element ddi value 0x01
    -- no device element has the element number
    no_element : ((i : ℕ) → Numbered element i → ⊥) → Cause command element ddi value 0x02
    -- the list of the device element with the number names no process data and no property of the DDI
    no_object : {i : ℕ} → Numbered element i → ((j : ℕ) → InList i ddi j → ⊥) → Cause command element ddi value 0x04
    -- command 3 or A, and the object is not settable
    not_settable : {j : ℕ} → Sets command → Object element ddi j → (Settable j → ⊥) → Cause command element ddi value 0x10
    -- command 4, 5, 6, 7 or 8, and the object lacks the trigger
    no_trigger : {j b : ℕ} → Needs command b → Object element ddi j → (Triggered j b → ⊥) → Cause command element ddi value 0x08
    -- command 4 or 5 with a negative value
    negative_interval : Interval command → Negative value → Cause command element ddi value 0x20

-- ---- the error byte

-- the first in a list that applies, 0 if none does
pub data FirstMatch (Applies : ℕ → Type 0) : List ℕ → ℕ → Type 0 where
  none : FirstMatch Applies [] 0
  here : {e : ℕ} {later : List ℕ} → Applies e → FirstMatch Applies (e ∷ later) e
  after : {e f : ℕ} {later : List ℕ} → (Applies e → ⊥) → FirstMatch Applies later f → FirstMatch Applies (e ∷ later) f

-- the error bytes in the order in which they are judged, which is not that of the numbers
abbrev pub errors : List ℕ
errors = 0x01 ∷ 0x02 ∷ 0x04 ∷ 0x10 ∷ 0x08 ∷ 0x20 ∷ []

-- a command has this error byte: the first whose cause applies, 0 if none does
abbrev pub ErrorByte : List ℕ → List Entry → ℕ → ℕ → ℕ → ℤ → ℕ → Type 0
ErrorByte p es command element ddi value = FirstMatch (Cause p es command element ddi value) errors

-- ---- the claim

-- what judging a command answers: number and error byte
pub record JudgedByCause (p : List ℕ) (room command element ddi : ℕ) (value : ℤ) : Type 0 where
  -- 32 for an element number over 4095, whatever the pool is, and no error byte
  pub over : 4095 < element → (judge_number p room element ≡ 32) × (judge_error p room command element ddi value ≡ 0)
  -- for another element number, a pool that is not accepted is refused as by a text query
  pub refused : element ≤ 4095 → (acceptance p room ≡ 0 → ⊥)
      → (judge_number p room element ≡ acceptance p room) × (judge_error p room command element ddi value ≡ 0)
  -- for an accepted pool the number is 0, and the error byte is the one defined above and no other
  pub judged : element ≤ 4095 → acceptance p room ≡ 0
      → (judge_number p room element ≡ 0)
      × ((e : ℕ) → (judge_error p room command element ddi value ≡ e) ↔ ErrorByte p (entries_in (scan_of p)) command element ddi value e)
  -- the same for `error_of`, by which the error byte is defined
  pub defined : element ≤ 4095 → acceptance p room ≡ 0
      → (e : ℕ) → (error_of p (entries_in (scan_of p)) command element ddi value ≡ e) ↔ ErrorByte p (entries_in (scan_of p)) command element ddi value e

-- for every pool, table and command
abbrev pub ErrorIsFirstCause : Type 0
ErrorIsFirstCause = (p : List ℕ) (room command element ddi : ℕ) (value : ℤ) → JudgedByCause p room command element ddi value
