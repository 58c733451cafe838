-- `marks::is_marked` meets its contract.
use mathlib.Core.Path.{refl}
use Rattle.marks.specs.Bits.{bit, bit_at}
use Rattle.marks.proofs.is_marked.Goals as goal

pub returns : goal.returns
unfolding bit_at bit
returns c = refl
