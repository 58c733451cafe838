-- `record_breaches::look::is_clear_long` meets its contract: after m entries their tags are distinct and their bits are set.
use Rattle.record_breaches.specs.Elements.{tag_in}
use Rattle.record_breaches.proofs.Noting.{Noted}
use Rattle.record_breaches.proofs.look.is_clear_long.Given as goal

abbrev pub invariant-loop-m : goal.invariant-loop-m
invariant-loop-m l = Noted (tag_in l.element) l.m l.noted
