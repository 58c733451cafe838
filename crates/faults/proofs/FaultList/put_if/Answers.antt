-- `faults::FaultList::put_if` meets its contract.
use mathlib.Core.Path.{refl}
use mathlib.Core.Bool.{true, false}
use native.Mathlib.Omega.{arith}
use Rattle.faults.proofs.Emission.{emits_none, puts_one}
use Rattle.faults.proofs.FaultList.put_if.Goals as goal

pub returns-then-breach : goal.returns-then-breach
returns-then-breach c = rw c.if-breach.true (record { same = c.put.ensures.0; puts = puts_one true c.put.ensures.1; few = c.put.ensures.2 })

pub returns-else-breach : goal.returns-else-breach
returns-else-breach c = rw c.if-breach.false (record { same = refl; puts = puts_one false emits_none; few = omega arith })
