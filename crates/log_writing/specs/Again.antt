-- What is read is written again byte for byte. Definitions only.
use Rattle.std.specs.Prelude.{ℕ, ◌≤◌, ◌≡◌, List, ◌++◌, ℤ, length, take, drop}
use Rattle.wire.specs.Bytes.{Octets}
use Rattle.time_log.specs.Layout.{record_length}
use Rattle.log_reading.specs.Reading.{read_of, ordinals_after, values_after}
use Rattle.log_reading.specs.declared.Record.{Record}
use Rattle.log_writing.specs.Writing.{write_refusal, written_as, bytes_after}

-- Every record that is read into two lists is written from them, with its fields and its count, if there is room: the answer
-- is its length, and the lent bytes then start with exactly the bytes that were read and are otherwise as before.
abbrev pub WrittenAgain : Type 0
WrittenAgain = (s : List ℕ) (layout logged : ℕ) (ps : List ℕ) (ws : List ℤ) (to : List ℕ) (r : Record)
    → Octets s → read_of layout logged s (length ps) (length ws) ≡ r → r.number ≡ 0 → r.length ≤ length to
    → (written_as (write_refusal layout r.fields logged (ordinals_after layout logged s ps ws) (values_after layout logged s ps ws) r.count (length to)) (record_length layout r.count) ≡ record { number = 0; length = r.length })
    × (bytes_after to layout r.fields logged (ordinals_after layout logged s ps ws) (values_after layout logged s ps ws) r.count ≡ take r.length s ++ drop r.length to)
