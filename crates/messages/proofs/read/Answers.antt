-- `messages::read` meets its contract: each return is a case of the definition.
use mathlib.Core.Path.{sym, ◌∙◌}
use borrow.Author.Tests.{eq-eqb, ne_eqb}
use mir.Syntax.{w32}
use mir.ValLaws.{to_z-of_z}
use Rattle.messages.specs.Reading.{read_of}
use Rattle.messages.proofs.read.Goals as goal

pub returns-then-bytes-ne8 : goal.returns-then-bytes-ne8
unfolding read_of
returns-then-bytes-ne8 c = rw (ne_eqb _ _ c.if-bytes-ne8.true)

pub returns-then-carries_value : goal.returns-then-carries_value
unfolding read_of
returns-then-carries_value c = rw (eq-eqb _ _ c.if-bytes-ne8.false, sym c.carries_value.ensures ∙ c.if-carries_value.true, to_z-of_z w32 c.read.result (record { sfits = c.read.type_inv }), c.read.ensures, c.read-ddi.ensures)

pub returns-then-command-eq13 : goal.returns-then-command-eq13
unfolding read_of
returns-then-command-eq13 c = rw (eq-eqb _ _ c.if-bytes-ne8.false, sym c.carries_value.ensures ∙ c.if-carries_value.false, eq-eqb _ _ c.if-command-eq13.true, c.read-ddi.ensures)

pub returns : goal.returns
unfolding read_of
returns c = rw (eq-eqb _ _ c.if-bytes-ne8.false, sym c.carries_value.ensures ∙ c.if-carries_value.false, ne_eqb _ _ c.if-command-eq13.false)
