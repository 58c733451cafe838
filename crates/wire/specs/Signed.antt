-- The law that signed numbers of 32 bits owe as numbers on the wire, with its proof.
use Rattle.std.specs.Prelude.{◌*◌, ◌-◌, ◌^◌, ◌<◌, ◌≡◌, suc, ℤ, pos, negsuc}
use Rattle.std.specs.Int.Signed.{mag}
use Rattle.std.proofs.Common.{arith, ap}
use borrow.Author.Tests.{lt-ltb, le-ltb}
use Rattle.wire.specs.Bytes.{signed_of, bits_of}

-- such a number is written as a number that fits four bytes, and reads back the same
pub signed_reads_back : (z : ℤ) → mag z < 2 ^ 31 → (bits_of 4 z < 256 ^ 4) × (signed_of 4 (bits_of 4 z) ≡ z)
unfolding signed_of bits_of
signed_reads_back (pos n) h = (omega arith, rw (lt-ltb (2 * n) 4294967296 (omega arith)))
signed_reads_back (negsuc n) h = (omega arith, rw (le-ltb (2 * (4294967296 - suc n)) 4294967296 (omega arith)) (ap negsuc (omega arith)))
