-- `presentation::fifty_is_rule_five` meets its contract, which is the claim itself.
use Rattle.presentation.proofs.Ruled.{fifty-is-rule-five}
use Rattle.presentation.proofs.fifty_is_rule_five.Goals as goal

pub returns : goal.returns
returns c = fifty-is-rule-five
