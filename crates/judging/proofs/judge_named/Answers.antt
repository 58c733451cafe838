-- `judging::judge_named` meets its contract.
use Rattle.naming.specs.Entries.{entries_in}
use Rattle.judging.proofs.Verdict.{faulty, clean}
use Rattle.judging.proofs.judge_named.Goals as goal

pub returns-then-put_all-ne0 : goal.returns-then-put_all-ne0
returns-then-put_all-ne0 c =
    let a = c.args in
    faulty a.names.now.records.pool.now (entries_in a.names.now.records) a.command.number a.command.element a.command.ddi a.command.value _ _ c.put_all.result c.put_all.ensures c.if-put_all-ne0.true

pub returns : goal.returns
returns c =
    let a = c.args in
    clean a.names.now.records.pool.now (entries_in a.names.now.records) a.command.number a.command.element a.command.ddi a.command.value _ _ c.put_all.result c.put_all.ensures c.if-put_all-ne0.false c.error_in.result (c.error_in.ensures)
