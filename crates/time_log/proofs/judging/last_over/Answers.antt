-- `time_log::judging::last_over` meets its contract: each number of an ordinal is tested in turn.
use Rattle.std.proofs.Common.{rules, arith, refl, ap, ◌∙◌, ◌+◌, ◌*◌, get_or}
use lib.Dec.{leb}
use borrow.Author.Tests.{tests}
use Rattle.std.proofs.lemmas.Iterator.{YieldsList-from_range}
use Rattle.std.proofs.lemmas.Iterator.Search.{any_from_yields_List}
use Rattle.time_log.specs.Contents.{spaced}
use Rattle.time_log.specs.Judging.{one_over}
use Rattle.time_log.proofs.Runs.{over-each}
use Rattle.time_log.proofs.judging.last_over.Goals as goal

pub returns : goal.returns
returns c =
    let a = c.args in
    any_from_yields_List (λ k. leb a.limit (get_or a.s.now (a.at + 5 * k) 0)) _ _ c.any.result c.any.ensures.ran
    (YieldsList-from_range 0 a.n a.n refl (search rules))
    (λ x b q k. search (rules, tests))
    ∙ over-each a.limit a.n 0 a.s.now a.at
    ∙ ap (λ p. one_over a.limit (spaced 5 a.n a.s.now p)) (omega arith)
