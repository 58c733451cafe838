-- `queries::first_with` meets its contract.
use Rattle.std.proofs.Common.{rules, refl, length, ◌-◌}
use borrow.Author.Tests.{tests}
use Rattle.std.proofs.lemmas.Iterator.{IsFirst-from_position, YieldsList-from_range}
use Rattle.queries.proofs.First.{Has, Lacks, first-with}
use Rattle.queries.proofs.first_with.Goals as goal

pub returns : goal.returns
returns c =
    let p = c.args.records.now.pool.now in
    let starts = c.args.records.now.starts.now in
    let divided = c.args.records.now.divided in
    first-with p starts divided c.args.id c.position.result
    (IsFirst-from_position _ _ c.position.result (Has p starts divided c.args.id) (Lacks p starts divided c.args.id) c.position.ensures.ran
    (YieldsList-from_range 0 (length starts - 1) (length starts - 1) refl (search rules))
    (λ x q k. search (rules, tests)) (λ x q k. search (rules, tests)))
