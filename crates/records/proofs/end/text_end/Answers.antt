-- `records::end::text_end` meets its contract.
use mathlib.Core.Path.{sym}
use borrow.Author.Tests.{le-leb, lt-ltb}
use Rattle.records.specs.Extents.{field_end}
use Rattle.records.proofs.Ends.{text-missing, text-over}
use Rattle.records.proofs.end.text_end.Goals as goal

pub returns-then-p-at-clause-exact : goal.returns-then-p-at-clause-exact
returns-then-p-at-clause-exact c = sym (text-missing _ _ _ c.if-p-at.true)

pub returns-then-limit-size-clause-exact : goal.returns-then-limit-size-clause-exact
returns-then-limit-size-clause-exact c = sym (text-over _ _ _ c.if-p-at.false c.if-limit-size.true)

pub returns-clause-exact : goal.returns-clause-exact
unfolding field_end
returns-clause-exact c = rw (lt-ltb _ _ c.if-p-at.false, le-leb _ _ c.if-limit-size.false) c.end_within.ensures.exact
