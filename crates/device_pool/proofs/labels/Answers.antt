-- `device_pool::labels`: the list that labelling leaves gives the table after reading.
use Rattle.std.proofs.Common.{rules, sym, subst, ◌∙◌, length}
use Rattle.queries.specs.Queries.{Labelled}
use Rattle.checker.proofs.Tables.{check-gathers}
use Rattle.device_pool.proofs.labels.Goals as goal

pub fill-requires-clause-fillable : goal.fill-requires-clause-fillable
fill-requires-clause-fillable c before after shown long r = (check-gathers c.args.p.now after shown.records c.args.table.now (search rules) (search rules)).fillable

pub returns : goal.returns
returns c =
    let a = c.args in
    let f = c.fill.ensures in
    let g = check-gathers a.p.now f.1 f.2.records a.table.now (search rules) (search rules) in
    let labelled : Labelled a.p.now (length a.table.now) f.2.answer = search rules in
    (subst (Labelled a.p.now (length a.table.now)) (sym f.5) labelled, f.6 ∙ g.after)
