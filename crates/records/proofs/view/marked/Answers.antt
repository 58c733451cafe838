-- `records::view::marked` meets its contract: two letters of a mark tell it from the others.
use native.Mathlib.Omega.{arith}
use Rattle.records.proofs.Marks.{mark-within, kind-process-data, kind-property, kind-element, kind-presentation, kind-device}
use Rattle.records.proofs.view.marked.Goals as goal

pub bounds-p-start : goal.bounds-p-start
bounds-p-start c = omega (arith, mark-within c.args.p.now c.args.at c.requires)

pub bounds-p-start-2 : goal.bounds-p-start-2
bounds-p-start-2 c = omega (arith, mark-within c.args.p.now c.args.at c.requires)

pub returns-then-third-eq68 : goal.returns-then-third-eq68
returns-then-third-eq68 c = kind-process-data _ _ _ c.requires c.if-second-eq80.true c.if-third-eq68.true

pub returns-then-second-eq80 : goal.returns-then-second-eq80
returns-then-second-eq80 c = kind-property _ _ _ c.requires c.if-second-eq80.true c.if-third-eq68.false

pub returns-then-second-eq69 : goal.returns-then-second-eq69
returns-then-second-eq69 c = kind-element _ _ _ c.requires c.if-second-eq69.true

pub returns-then-third-eq80 : goal.returns-then-third-eq80
returns-then-third-eq80 c = kind-presentation _ _ _ c.requires c.if-second-eq80.false c.if-second-eq69.false c.if-third-eq80.true

pub returns : goal.returns
returns c = kind-device _ _ _ c.requires c.if-second-eq80.false c.if-second-eq69.false c.if-third-eq80.false
