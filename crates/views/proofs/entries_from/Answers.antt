-- `views::entries_from` meets its contract.
use native.Mathlib.Omega.{arith}
use Rattle.views.proofs.Views.{entries-view}
use Rattle.views.proofs.entries_from.Goals as goal

pub returns : goal.returns
returns c = (entries-view c.args.p.now c.args.at _ c.text-designator.ensures.0, omega (arith, c.text-designator.ensures.1))
