-- `record_breaches::look::is_clear_entries` meets its contract.
use native.Mathlib.Omega.{arith}
use Rattle.rules.proofs.Truth.{untrue}
use Rattle.record_breaches.proofs.Elements.{entries-few}
use Rattle.record_breaches.proofs.look.is_clear_entries.Goals as goal

pub overflow_mul-size : goal.overflow_mul-size
overflow_mul-size c = omega (arith, entries-few c.args.element.now)

pub overflow_add-from : goal.overflow_add-from
overflow_add-from c = omega (arith, entries-few c.args.element.now, c.entries_from-from.ensures.1)

pub returns-then-p-from : goal.returns-then-p-from
returns-then-p-from c t = untrue t

pub is_clear_long-requires : goal.is_clear_long-requires
is_clear_long-requires c = (omega (arith, c.if-p-from.false), c.entries_from-from.ensures.0)

pub returns-then-size-gt64 : goal.returns-then-size-gt64
returns-then-size-gt64 c t = c.is_clear_long.ensures t

pub is_clear_list-requires : goal.is_clear_list-requires
is_clear_list-requires c = (omega (arith, c.if-p-from.false), c.entries_from-from.ensures.0)

pub returns : goal.returns
returns c t = c.is_clear_list.ensures t
