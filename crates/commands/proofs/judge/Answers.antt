-- `commands::judge`: the list that judging leaves gives the table after judging.
use Rattle.std.proofs.Common.{rules, ◌≡◌, ap, ◌∙◌, length}
use Rattle.judging.specs.Judging.{judge_answer}
use Rattle.judging.specs.Answer.{answer_of}
use Rattle.commands.proofs.Tables.{judged-gathers}
use Rattle.commands.proofs.judge.Goals as goal

pub fill-requires-clause-fillable : goal.fill-requires-clause-fillable
fill-requires-clause-fillable c before after judged long r =
    let a = c.args in
    (judged-gathers a.p.now after judged.records a.table.now a.element (search rules) (search rules)).fillable

pub returns : goal.returns
returns c =
    let a = c.args in
    let f = c.fill.ensures in
    let g = judged-gathers a.p.now f.1 f.2.records a.table.now a.element (search rules) (search rules) in
    let judged : answer_of f.2.answer ≡ judge_answer a.p.now (length a.table.now) a.command a.element a.ddi a.value = search rules in
    (ap answer_of f.5 ∙ judged, f.6 ∙ g.after)
