-- `judging::find_element` meets its contract: the first place that passes.
use Rattle.std.proofs.Common.{rules}
use borrow.Author.Tests.{tests}
use Rattle.std.proofs.lemmas.Iterator.{IsFirst-from_position, YieldsList-from_slice}
use Rattle.naming.proofs.Names.{records-some}
use Rattle.judging.proofs.Found.{Fits, Fails, element-found}
use Rattle.judging.proofs.find_element.Goals as goal

pub returns : goal.returns
returns c =
    let r = c.args.records.now in
    let p = r.pool.now in
    let starts = r.starts.now in
    let some = records-some r in
    let element = c.args.element in
    element-found p starts some element c.position.result
    (IsFirst-from_position _ _ c.position.result (Fits p starts some element) (Fails p starts some element) c.position.ensures.ran
    (YieldsList-from_slice _ (search rules))
    (λ x q k. search (rules, tests)) (λ x q k. search (rules, tests)))
