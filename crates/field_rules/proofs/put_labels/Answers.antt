-- `field_rules::put_labels` meets its contract: item by item.
use mathlib.Core.Path.{◌≡◌}
use native.Mathlib.Omega.{arith}
use Rattle.faults.proofs.Adding.{adds-start, adds-turn}
use Rattle.field_rules.proofs.put_labels.Goals as goal

pub loop-j-init : goal.loop-j-init
loop-j-init c = adds-start

pub put_if-requires : goal.put_if-requires
put_if-requires c = omega (arith, c.requires.1, c.loop-j.invariant.few, c.loop-j-test.true)

pub loop-j-preserved : goal.loop-j-preserved
loop-j-preserved c = adds-turn c.loop-j.j c.loop-j.invariant (rw (← c.is_bad_label.ensures) c.put_if.ensures)
