-- `records::view::kind_number` meets its contract.
use native.Mathlib.Omega.{arith}
use Rattle.records.proofs.Marks.{mark-within, kind-product}
use Rattle.records.proofs.view.kind_number.Goals as goal

pub bounds-p-start : goal.bounds-p-start
bounds-p-start c = omega (arith, mark-within c.args.p.now c.args.at c.requires)

pub bounds-p-start-2 : goal.bounds-p-start-2
bounds-p-start-2 c = omega (arith, mark-within c.args.p.now c.args.at c.requires)

pub returns : goal.returns
returns c = kind-product _ _ _ c.requires
