-- What is written reads back the same, and what is read is written back the same except for the bits that are ignored.
-- Definitions only.
use Rattle.std.specs.Prelude.{ℕ, ◌+◌, ◌%◌, ◌^◌, ◌<◌, ◌≡◌, true, List, [], ◌∷◌, ◌++◌, ℤ, length, get_or, take}
use Rattle.std.specs.Int.Signed.{mag}
use Rattle.wire.specs.Bytes.{Octets}
use Rattle.messages.specs.Layout.{is_value_carrier, value_bytes, acknowledge_bytes}
use Rattle.messages.specs.Reading.{valued, acknowledged, read_of}
use Rattle.messages.specs.Writing.{value_refusal, value_after, acknowledge_refusal, acknowledge_after}

-- both ways: written and read, read and written
pub record ReadsBack : Type 0 where
  -- every message that is written, into eight bytes or more, reads back the same
  pub value : (to : List ℕ) (command element ddi : ℕ) (v : ℤ) → value_refusal command element (length to) ≡ 0 → ddi < 65536 → mag v < 2 ^ 31
      → read_of (take 8 (value_after to command element ddi v)) ≡ valued command element ddi v
  pub acknowledge : (to : List ℕ) (element ddi errors answered : ℕ) → acknowledge_refusal element answered (length to) ≡ 0 → ddi < 65536
      → read_of (take 8 (acknowledge_after to element ddi errors answered)) ≡ acknowledged element ddi errors answered
  -- every message that is read is written back the same; the ignored bits of an acknowledge become ones
  pub value_again : (s : List ℕ) (command element ddi : ℕ) (v : ℤ) → Octets s → is_value_carrier command ≡ true → read_of s ≡ valued command element ddi v
      → value_bytes command element ddi v ≡ s
  pub acknowledge_again : (s : List ℕ) (element ddi errors answered : ℕ) → Octets s → read_of s ≡ acknowledged element ddi errors answered
      → acknowledge_bytes element ddi errors answered ≡ take 5 s ++ (240 + get_or s 5 0 % 16) ∷ 255 ∷ 255 ∷ []
