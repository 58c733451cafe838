-- `record_breaches::look::is_clear_list` meets its contract: after m entries their tags are distinct and their places are stamped.
use Prim.Native.Nat.{ℕ, ◌%◌}
use Rattle.record_breaches.specs.Elements.{tag_in}
use Rattle.field_rules.proofs.Clearing.{Placed}
use Rattle.record_breaches.proofs.look.is_clear_list.Given as goal

abbrev pub invariant-loop-m : goal.invariant-loop-m
invariant-loop-m l = Placed (λ (t : ℕ). t % 1024) (tag_in l.element) l.stamp l.m l.seen
