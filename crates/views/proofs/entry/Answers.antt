-- `views::entry` meets its contract.
use mathlib.Core.Path.{sym, ◌∙◌}
use Rattle.views.proofs.entry.Goals as goal

pub returns : goal.returns
returns c = c.read.ensures ∙ sym (c.entries_from.ensures.0 c.args.i)
