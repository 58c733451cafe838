-- `records::view::is_data` meets its contract.
use native.Mathlib.Omega.{arith}
use Rattle.records.proofs.Marks.{mark-within, data-letter}
use Rattle.records.proofs.view.is_data.Goals as goal

pub bounds-p-at : goal.bounds-p-at
bounds-p-at c = omega (arith, mark-within c.args.p.now c.args.at c.requires)

pub returns : goal.returns
returns c = data-letter _ _ _ c.requires
