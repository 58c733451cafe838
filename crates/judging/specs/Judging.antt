-- Judging a command to the device: document 01, the last paragraph of "Process data messages". Definitions only.
use Rattle.std.specs.Prelude.{ℕ, zero, suc, ◌/◌, ◌%◌, ◌^◌, Bool, false, cond, not, ◌&&◌, ◌||◌, List, [], ◌∷◌, eqb, ltb, ℤ, pos, length}
use Rattle.std.specs.Int.Signed.{lt_z}
use Rattle.views.specs.Fields.{element_of, entry_of, process_data_of}
use Rattle.pool.specs.Answer.{Answer, answer}
use Rattle.pool.specs.Reading.{Entry, scan_of, entries_in}
use Rattle.naming.specs.Naming.{first_of, element_key, named, kind_of, tag_of}
use Rattle.queries.specs.Queries.{acceptance, start_of}
use Rattle.messages.specs.Layout.{is_value_carrier}

-- 0x02: the first device element with an element number, as its record's number from 1; 0 for none
unfoldable pub element_for : List ℕ → List Entry → ℕ → ℕ
element_for p es element = first_of (element_key p es) (suc element) (length es)

-- the first entry that names process data or a property of a DDI, in the list of the device element that starts at a place: as the
-- entry's number from 1, 0 for none
unfoldable pub entry_for : List ℕ → List Entry → ℕ → ℕ → ℕ
entry_for p es at ddi = first_of (λ (m : ℕ). tag_of p es (named es (entry_of p at m))) (suc ddi) (element_of p at).entries

-- the record that the entry with a number from 1 names, as the record's number from 1; 0 for none
abbrev pub named_by : List ℕ → List Entry → ℕ → ℕ → ℕ
named_by p es at zero = 0
named_by p es at (suc m) = named es (entry_of p at m)

-- 0x04: the object of a command for a DDI: the record that the first entry with this DDI names; 0 for none
abbrev pub object_for : List ℕ → List Entry → ℕ → ℕ → ℕ
object_for p es at ddi = named_by p es at (entry_for p es at ddi)

-- the property bits of an object, by the number of its kind and its start: those of process data; for a property none is set
abbrev pub properties_in : List ℕ → ℕ → ℕ → ℕ
properties_in p kind at = cond (eqb kind 3) (process_data_of p at).properties 0

-- the trigger bits of an object, likewise
abbrev pub triggers_in : List ℕ → ℕ → ℕ → ℕ
triggers_in p kind at = cond (eqb kind 3) (process_data_of p at).triggers 0

-- whether a bit of a number is 0; bit 0 is the lowest
abbrev pub is_clear : ℕ → ℕ → Bool
is_clear bit x = eqb (x / 2 ^ bit % 2) 0

-- 0x10: commands 3 and A set a value, which needs property bit 1
abbrev pub misses_setting : ℕ → ℕ → Bool
misses_setting properties command = (eqb command 3 || eqb command 10) && is_clear 1 properties

-- a row of the trigger table: a command that starts a measurement, and the trigger bit that it needs
pub record Asks : Type 0 where
  pub command : ℕ
  pub bit : ℕ

-- a row, by its command and its bit
abbrev pub asks : ℕ → ℕ → Asks
asks command bit = record { command = command; bit = bit }

-- the trigger table: 4 needs time, 5 distance, 6 and 7 threshold, 8 on change; no other command needs a trigger
abbrev pub trigger_table : List Asks
trigger_table = asks 4 0 ∷ asks 5 1 ∷ asks 6 2 ∷ asks 7 2 ∷ asks 8 3 ∷ []

-- whether a row of a trigger table has the command and a bit that is clear in triggers
abbrev pub misses_in : List Asks → ℕ → ℕ → Bool
misses_in [] triggers command = false
misses_in (row ∷ rows) triggers command = (eqb command row.command && is_clear row.bit triggers) || misses_in rows triggers command

-- 0x08: the trigger that the command needs is missing
abbrev pub misses_trigger : ℕ → ℕ → Bool
misses_trigger triggers command = misses_in trigger_table triggers command

-- 0x20: commands 4 and 5 carry an interval, of time or distance, which must not be negative
abbrev pub misses_interval : ℤ → ℕ → Bool
misses_interval value command = (eqb command 4 || eqb command 5) && lt_z value (pos 0)

-- the error byte of a command whose object was found: that of the first test that holds
unfoldable pub error_of_object : ℕ → ℕ → ℕ → ℤ → ℕ
error_of_object properties triggers command value =
    cond (misses_setting properties command) 0x10
    (cond (misses_trigger triggers command) 0x08
    (cond (misses_interval value command) 0x20 0))

-- the error byte of any command: 0x01 if it carries no value, then 0x02, 0x04 and those of its object
unfoldable pub error_of : List ℕ → List Entry → ℕ → ℕ → ℕ → ℤ → ℕ
error_of p es command element ddi value =
    let at = start_of es (element_for p es element) in
    let object = object_for p es at ddi in
    cond (not (is_value_carrier command)) 0x01
    (cond (eqb (element_for p es element) 0) 0x02
    (cond (eqb object 0) 0x04
    (error_of_object (properties_in p (kind_of es object) (start_of es object)) (triggers_in p (kind_of es object) (start_of es object)) command value)))

-- 32 for an element number over 4,095, whatever the pool is; else why the pool is not accepted; else 0
unfoldable pub judge_number : List ℕ → ℕ → ℕ → ℕ
judge_number p room element = cond (ltb 4095 element) 32 (acceptance p room)

-- the error byte; 0 if the number is not 0
unfoldable pub judge_error : List ℕ → ℕ → ℕ → ℕ → ℕ → ℤ → ℕ
judge_error p room command element ddi value =
    cond (eqb (judge_number p room element) 0) (error_of p (entries_in (scan_of p)) command element ddi value) 0

-- the number and the error byte together
abbrev pub judge_answer : List ℕ → ℕ → ℕ → ℕ → ℕ → ℤ → Answer
judge_answer p room command element ddi value = answer (judge_number p room element) (judge_error p room command element ddi value)
