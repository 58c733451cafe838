-- `working_table::read`: the list that reading leaves gives the table after reading.
use Rattle.std.proofs.Common.{rules, ◌≡◌, ap, ◌∙◌, length}
use Rattle.pool.specs.Answer.{answer_of}
use Rattle.pool.specs.Reading.{read_of}
use Rattle.working_table.proofs.Gathered.{read-gathers}
use Rattle.working_table.proofs.read.Goals as goal

pub fill-requires-clause-fillable : goal.fill-requires-clause-fillable
fill-requires-clause-fillable c before after counted long r = (read-gathers c.args.p.now after counted.records counted.answer c.args.table.now (search rules) (search rules) (search rules)).fillable

pub returns : goal.returns
returns c =
    let a = c.args in
    let f = c.fill.ensures in
    let g = read-gathers a.p.now f.1 f.2.records f.2.answer a.table.now (search rules) (search rules) (search rules) in
    let read : answer_of f.2.answer ≡ read_of a.p.now (length a.table.now) = search rules in
    (ap answer_of f.5 ∙ read, f.6 ∙ g.after)
