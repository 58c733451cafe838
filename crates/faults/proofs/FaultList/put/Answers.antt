-- `faults::FaultList::put` meets its contract.
use mathlib.Core.Path.{◌≡◌, ap, ◌∙◌}
use Prim.Native.Nat.{suc, ◌+◌, ◌*◌}
use native.Mathlib.Numerals.{add-one, add-two}
use native.Mathlib.Omega.{arith}
use borrow.Author.Tests.{le-leb, lt-leb}
use lib.ListN.{length}
use Rattle.faults.specs.Faults.{fault, width}
use Rattle.faults.specs.Emission.{put_at, puts}
use Rattle.faults.specs.declared.FaultList.{FaultList}
use Rattle.faults.proofs.FaultList.put.Goals as goal
use Rattle.faults.proofs.FaultList.put.Goals.{then-i-self, else-i-self}

-- both ways through the branch leave the buffer with the fault where it fits, and the fault is counted, whether it was written or not
pub returns : goal.returns
unfolding put_at puts
returns c =
    let a = c.args in
    let l = a.self.now in
    let i = l.count * width in
    let three : i + 3 ≡ suc (suc (suc i)) = omega arith in
    let four : i + 4 ≡ suc (suc (suc (suc i))) = omega arith in
    let there : (c.if-i-self.self.buffer.now ≡ put_at l.buffer.now l.count (fault a.number a.rule a.item)) × (c.if-i-self.self.buffer.ghost_name ≡ l.buffer.ghost_name) × (c.if-i-self.self.count ≡ l.count) =
    elim c.if-i-self.branch [
      | then-i-self w ↦ (ap (λ (s : FaultList). s.buffer.now) w.self-is ∙ rw (le-leb (i + width) (length l.buffer.now) (omega (arith, w.if-i-self.true)), add-one i, add-two i, three, four), ap (λ (s : FaultList). s.buffer.ghost_name) w.self-is, ap (λ (s : FaultList). s.count) w.self-is)
      | else-i-self w ↦ (ap (λ (s : FaultList). s.buffer.now) w.self-is ∙ rw (lt-leb (i + width) (length l.buffer.now) (omega (arith, w.if-i-self.false))), ap (λ (s : FaultList). s.buffer.ghost_name) w.self-is, ap (λ (s : FaultList). s.count) w.self-is)
    ] in
    (there.1, record { laid = there.0; counted = ap (λ n. n + 1) there.2 }, omega (arith, there.2))
