-- Writing a message: 31, 32, 33, or exactly eight bytes. Definitions only.
use Rattle.std.specs.Prelude.{ℕ, not, cond, ◌||◌, List, eqb, ltb, ℤ, length, Result, Ok, Err}
use Rattle.std.proofs.lemmas.List.Edits.{sets}
use Rattle.messages.specs.Layout.{is_value_carrier, value_bytes, acknowledge_bytes}
use Rattle.messages.specs.declared.Unwritten.{Unwritten}
use Rattle.messages.specs.declared.Unwritten.TheVariants.{NoCommand, TooLarge, NoRoom}

-- the number of each refusal
abbrev pub unwritten_number : Unwritten → ℕ
unwritten_number NoCommand = 31
unwritten_number TooLarge = 32
unwritten_number NoRoom = 33

-- the number of each answer, 0 if the message is written
abbrev pub number_of : Result (Unit {0}) Unwritten → ℕ
number_of (Ok done) = 0
number_of (Err refusal) = unwritten_number refusal

-- the refusal of a value message; 0 if its command carries a value, its element number is below 4096 and eight bytes are lent
unfoldable pub value_refusal : ℕ → ℕ → ℕ → ℕ
value_refusal command element room =
    cond (not (is_value_carrier command)) 31 (cond (ltb 4095 element) 32 (cond (ltb room 8) 33 0))

-- the refusal of an acknowledge; 0 if element number and answered command are in range and eight bytes are lent
unfoldable pub acknowledge_refusal : ℕ → ℕ → ℕ → ℕ
acknowledge_refusal element answered room = cond (ltb 4095 element || ltb 15 answered) 32 (cond (ltb room 8) 33 0)

-- the lent bytes afterwards: they start with the value message, and later bytes are as before; a refusal changes nothing
unfoldable pub value_after : List ℕ → ℕ → ℕ → ℕ → ℤ → List ℕ
value_after to command element ddi value =
    cond (eqb (value_refusal command element (length to)) 0) (sets to 0 (value_bytes command element ddi value)) to

-- the same for an acknowledge
unfoldable pub acknowledge_after : List ℕ → ℕ → ℕ → ℕ → ℕ → List ℕ
acknowledge_after to element ddi errors answered =
    cond (eqb (acknowledge_refusal element answered (length to)) 0) (sets to 0 (acknowledge_bytes element ddi errors answered)) to
