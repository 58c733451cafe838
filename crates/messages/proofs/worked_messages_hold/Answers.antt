-- `messages::worked_messages_hold` meets its contract: antt computes each.
use mathlib.Core.Path.{refl}
use Rattle.wire.specs.Bytes.{le_of, bytes_of, number_in, signed_of, bits_of}
use Rattle.messages.specs.Layout.{head_bytes, value_bytes, acknowledge_bytes}
use Rattle.messages.specs.Reading.{read_of}
use Rattle.messages.specs.Writing.{value_refusal, acknowledge_refusal, value_after, acknowledge_after}
use Rattle.messages.specs.Worked.{WorkedMessages}
use Rattle.messages.proofs.worked_messages_hold.Goals as goal

worked : WorkedMessages
unfolding le_of bytes_of number_in signed_of bits_of head_bytes value_bytes acknowledge_bytes read_of value_refusal acknowledge_refusal value_after acknowledge_after
worked = record { value_read = refl; value_written = refl; acknowledge_read = refl; acknowledge_written = refl }

pub returns : goal.returns
returns c = worked
