-- `device_pool::find_text`: the list that finding leaves gives the table after reading.
use Rattle.std.proofs.Common.{rules, sym, subst, ◌∙◌, length}
use Rattle.queries.specs.Queries.{Finds}
use Rattle.checker.proofs.Tables.{check-gathers}
use Rattle.device_pool.proofs.find_text.Goals as goal

pub fill-requires-clause-fillable : goal.fill-requires-clause-fillable
fill-requires-clause-fillable c before after found long r = (check-gathers c.args.p.now after found.records c.args.table.now (search rules) (search rules)).fillable

pub returns : goal.returns
returns c =
    let a = c.args in
    let f = c.fill.ensures in
    let g = check-gathers a.p.now f.1 f.2.records a.table.now (search rules) (search rules) in
    let finds : Finds a.p.now (length a.table.now) a.id f.2.answer = search rules in
    (subst (Finds a.p.now (length a.table.now) a.id) (sym f.5) finds, f.6 ∙ g.after)
