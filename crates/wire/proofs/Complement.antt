-- Two's complement: what the machine computes is the signed number of the bytes, and back. Assumes nothing.
use mathlib.Core.Path.{◌≡◌, refl, sym}
use mathlib.Core.Bool.{Bool, true, false}
use Prim.Native.Nat.{ℕ, suc, ◌*◌, ◌-◌, ◌^◌, ◌<◌, ◌≤◌}
use native.Mathlib.Omega.{arith}
use borrow.Author.Tests.{lt-ltb, le-ltb, ltb-true, ltb-false}
use lib.Dec.{ltb}
use lib.IntN.{ℤ, pos, negsuc}
use lib.Signed.{mag}
use mir.Syntax.{w32}
use mir.Val.{SFits, to_z, of_z, sel}
use Rattle.wire.specs.Bytes.{signed_of, bits_of}
use Rattle.wire.specs.Signed.{signed_reads_back}

pub low : (x : ℕ) → x < 2147483648 → signed_of 4 x ≡ pos x
unfolding signed_of
low x h = rw (lt-ltb (2 * x) 4294967296 (omega arith))

pub high : (x : ℕ) → 2147483648 ≤ x → signed_of 4 x ≡ negsuc (4294967296 - suc x)
unfolding signed_of
high x h = rw (le-ltb (2 * x) 4294967296 (omega arith))

-- the machine's reading of 32 bits as a signed number
pub machine-signed : (x : ℕ) → to_z w32 x ≡ signed_of 4 x
machine-signed x = go (ltb x 2147483648) refl
  where
    go : (b : Bool) → ltb x 2147483648 ≡ b → sel b (pos x) (negsuc (4294967296 - suc x)) ≡ signed_of 4 x
    go true e = sym (low x (ltb-true x 2147483648 e))
    go false e = sym (high x (ltb-false x 2147483648 e))

-- and the machine's bits of a signed number
pub machine-bits : (z : ℤ) → of_z w32 z ≡ bits_of 4 z
unfolding bits_of
machine-bits (pos n) = refl
machine-bits (negsuc n) = refl

-- what is written of a signed number reads back as the same number
pub signed-bits : (z : ℤ) → SFits w32 z → signed_of 4 (bits_of 4 z) ≡ z
signed-bits z f = (signed_reads_back z f.sfits).1

pub bits_small : (z : ℤ) → mag z < 2 ^ 31 → bits_of 4 z < 256 ^ 4
bits_small z f = (signed_reads_back z f).0
