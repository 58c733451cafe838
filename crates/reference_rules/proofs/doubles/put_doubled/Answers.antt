-- `reference_rules::doubles::put_doubled` meets its contract.
use Rattle.faults.proofs.Adding.{adds-clear}
use Rattle.reference_rules.proofs.doubles.put_doubled.Goals as goal

pub returns-then-tagged-lt2 : goal.returns-then-tagged-lt2
returns-then-tagged-lt2 c = adds-clear (c.requires.0 c.if-tagged-lt2.true, tt)
