-- `field_rules::is_unsound` meets its contract.
use mathlib.Core.Path.{ap}
use mathlib.Core.Bool.{not}
use Rattle.rules.specs.Table.{unsound}
use Rattle.field_rules.proofs.is_unsound.Goals as goal

pub returns : goal.returns
unfolding unsound
returns c = ap not c.is_sound_in.ensures
