-- `presentation::is_in_range` meets its contract.
use mathlib.Core.Path.{sym, ◌∙◌}
use Rattle.presentation.specs.Display.{in_range}
use Rattle.presentation.proofs.is_in_range.Goals as goal

pub returns-then-is_nan : goal.returns-then-is_nan
unfolding in_range
returns-then-is_nan c = rw (sym c.is_nan.ensures.value ∙ c.if-is_nan.true)

pub float_to_bits-bits : goal.float_to_bits-bits
float_to_bits-bits c = rw (sym c.is_nan.ensures.value ∙ c.if-is_nan.false) tt

pub returns : goal.returns
unfolding in_range
returns c = rw (sym c.is_nan.ensures.value ∙ c.if-is_nan.false)
