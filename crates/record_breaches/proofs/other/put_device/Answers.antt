-- `record_breaches::other::put_device` meets its contract.
use native.Mathlib.Omega.{arith}
use Prim.Native.Nat.{ℕ}
use Rattle.field_rules.proofs.ByKind.{near}
use Rattle.record_breaches.proofs.other.put_device.Goals as goal

pub put_device-requires : goal.put_device-requires
put_device-requires c = (rw c.device.ensures (near c.args.p.now c.args.at (λ (j : ℕ). omega (arith, c.type_inv.p j)) (omega arith)), omega (arith, c.requires))

pub returns : goal.returns
returns c = rw (← c.device.ensures) c.put_device.ensures
