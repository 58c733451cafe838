-- `records::view::mark` meets its contract.
use mathlib.Core.Path.{sym}
use Rattle.records.proofs.Marks.{mark-short}
use Rattle.records.proofs.view.mark.Goals as goal

pub returns-then-p-start : goal.returns-then-p-start
returns-then-p-start c = sym (mark-short c.args.p.now c.args.at c.if-p-start.true)
