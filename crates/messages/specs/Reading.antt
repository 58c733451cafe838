-- Reading a message: its fields, or refusal 30 or 31. Definitions only.
use Rattle.std.specs.Prelude.{ℕ, ◌+◌, ◌*◌, ◌/◌, ◌%◌, cond, not, List, eqb, ℤ, pos, length, get_or, Result, Ok, Err}
use Rattle.wire.specs.Bytes.{number_in, signed_of}
use Rattle.messages.specs.Layout.{is_value_carrier, acknowledge}
use Rattle.messages.specs.declared.Message.{Message}
use Rattle.messages.specs.declared.Message.TheVariants.{Value, Acknowledge}
use Rattle.messages.specs.declared.Unread.{Unread}
use Rattle.messages.specs.declared.Unread.TheVariants.{NotEight, NoCommand}

-- what is read: number 0 and the fields, or a refusal's number; fields that a message does not have are 0
pub record Fields : Type 0 where
  pub number : ℕ
  pub command : ℕ
  pub element : ℕ
  pub ddi : ℕ
  pub value : ℤ
  pub errors : ℕ
  pub answered : ℕ

-- a value message
abbrev pub valued : ℕ → ℕ → ℕ → ℤ → Fields
valued command element ddi value = record { number = 0; command = command; element = element; ddi = ddi; value = value; errors = 0; answered = 0 }

-- an acknowledge
abbrev pub acknowledged : ℕ → ℕ → ℕ → ℕ → Fields
acknowledged element ddi errors answered =
    record { number = 0; command = acknowledge; element = element; ddi = ddi; value = pos 0; errors = errors; answered = answered }

-- a refusal, with zeros
abbrev pub refused : ℕ → Fields
refused n = record { number = n; command = 0; element = 0; ddi = 0; value = pos 0; errors = 0; answered = 0 }

-- the number of each refusal
abbrev pub unread_number : Unread → ℕ
unread_number NotEight = 30
unread_number NoCommand = 31

-- the number and the fields of each answer
abbrev pub fields_of : Result Message Unread → Fields
fields_of (Ok (Value command element ddi value)) = valued command element ddi value
fields_of (Ok (Acknowledge element ddi errors answered)) = acknowledged element ddi errors answered
fields_of (Err refusal) = refused (unread_number refusal)

-- the command: the lower four bits of the first byte
abbrev pub command_in : List ℕ → ℕ
command_in s = get_or s 0 0 % 16

-- the element number: the upper four bits of the first byte are its lowest bits, and the second byte is the upper eight
abbrev pub element_in : List ℕ → ℕ
element_in s = get_or s 0 0 / 16 + 16 * get_or s 1 0

-- reading: 30 unless there are eight bytes; a value message; an acknowledge; 31 for any other command
unfoldable pub read_of : List ℕ → Fields
read_of s =
    cond (not (eqb (length s) 8)) (refused 30)
    (cond (is_value_carrier (command_in s)) (valued (command_in s) (element_in s) (number_in 2 s 2) (signed_of 4 (number_in 4 s 4)))
    (cond (eqb (command_in s) acknowledge) (acknowledged (element_in s) (number_in 2 s 2) (get_or s 4 0) (get_or s 5 0 % 16))
    (refused 31)))
