-- Two worked messages, which fix the order of the bytes: in the value message no two bytes are alike, in the acknowledge none but the
-- last two, which are always ones. Definitions only.
use Rattle.std.specs.Prelude.{◌≡◌, List, [], ◌∷◌, ℕ, pos}
use Rattle.messages.specs.Reading.{read_of, valued, acknowledged}
use Rattle.messages.specs.Writing.{value_after, acknowledge_after}

-- command 4 to element 294 (126 in hexadecimal): DDI 5634 and value 0DBC9A78, the lowest byte first
abbrev pub value_message : List ℕ
value_message = 0x64 ∷ 0x12 ∷ 0x34 ∷ 0x56 ∷ 0x78 ∷ 0x9A ∷ 0xBC ∷ 0x0D ∷ []

-- an acknowledge of command 5 by element 794 (31A in hexadecimal): DDI 028D, error bits 14
abbrev pub acknowledge_message : List ℕ
acknowledge_message = 0xAD ∷ 0x31 ∷ 0x8D ∷ 0x02 ∷ 0x14 ∷ 0xF5 ∷ 0xFF ∷ 0xFF ∷ []

-- eight bytes that are lent to be written into
abbrev pub lent : List ℕ
lent = 0 ∷ 0 ∷ 0 ∷ 0 ∷ 0 ∷ 0 ∷ 0 ∷ 0 ∷ []

-- both are read and written so
pub record WorkedMessages : Type 0 where
  pub value_read : read_of value_message ≡ valued 4 294 0x5634 (pos 0x0DBC9A78)
  pub value_written : value_after lent 4 294 0x5634 (pos 0x0DBC9A78) ≡ value_message
  pub acknowledge_read : read_of acknowledge_message ≡ acknowledged 794 0x028D 0x14 5
  pub acknowledge_written : acknowledge_after lent 794 0x028D 0x14 5 ≡ acknowledge_message
