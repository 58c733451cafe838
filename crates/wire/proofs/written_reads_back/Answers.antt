-- `wire::written_reads_back` meets its contract: the law for every width, and two's complement on top of it.
use mathlib.Core.Path.{ap, ◌∙◌}
use Prim.Native.Nat.{ℕ, ◌+◌}
use mathlib.Core.List.{List}
use native.Mathlib.Nat.{mod-eq_of_lt}
use borrow.Author.Tests.{le-leb}
use lib.ListN.{length}
use Rattle.wire.specs.Bytes.{bytes_of, number_in, signed_of}
use Rattle.wire.specs.ReadBack.{Unsigned, Signed32}
use Rattle.wire.proofs.Width.{bytes-long, read_back}
use Rattle.wire.proofs.Laid.{laid-fits}
use Rattle.wire.proofs.Complement.{signed-bits, bits_small}
use Rattle.wire.proofs.written_reads_back.Goals as goal

unsigned : Unsigned
unsigned w x at d room fits =
    ap (λ (l : List ℕ). number_in w l at) (laid-fits d at (bytes_of w x) (le-leb (at + length (bytes_of w x)) (length d) (rw (bytes-long w x) room)))
    ∙ read_back w d at x room
    ∙ mod-eq_of_lt fits

signed32 : Signed32
signed32 z at d room fits =
    ap (signed_of 4) (unsigned 4 _ at d room (bits_small z fits)) ∙ signed-bits z (record { sfits = fits })

pub returns : goal.returns
returns c = (unsigned, signed32)
