-- `presentation::bits_are_fixed` meets its contract, which is the claim itself.
use Rattle.presentation.proofs.Unique.{product-unique}
use Rattle.presentation.proofs.bits_are_fixed.Goals as goal

pub returns : goal.returns
returns c = product-unique
