-- `queries::find_in` meets its contract.
use Rattle.std.proofs.Common.{sym, arith}
use Rattle.std.proofs.lemmas.Result.{err_from_is_err_and}
use lib.Seq.{length-take-le}
use Rattle.queries.proofs.Asked.{text-refused, listed-room, listed-divided, text-found}
use Rattle.queries.proofs.find_in.Goals as goal

pub returns-in_err-count : goal.returns-in_err-count
returns-in_err-count c =
    let a = c.args in
    let p = err_from_is_err_and c.from_residual.result c.from_residual.ensures.1 in
    rw (p.1, p.2) (text-refused a.p.now a.room a.starts.now a.verdict c.requires c.in_err-count.field-0.0 c.in_err-count.ensures a.id)

pub overflow_add-records : goal.overflow_add-records
overflow_add-records c =
    let a = c.args in
    omega (arith, listed-room a.p.now a.room a.starts.now a.verdict c.requires c.in_ok-count.count c.in_ok-count.ensures, c.well_formed)

pub slice_bounds-records-end : goal.slice_bounds-records-end
slice_bounds-records-end c =
    let a = c.args in
    sym (length-take-le _ a.starts.now (listed-room a.p.now a.room a.starts.now a.verdict c.requires c.in_ok-count.count c.in_ok-count.ensures))

pub invariant_of-records : goal.invariant_of-records
invariant_of-records c =
    let a = c.args in
    record { divided = listed-divided a.p.now a.room a.starts.now a.verdict c.requires c.in_ok-count.count c.in_ok-count.ensures }

pub returns : goal.returns
returns c =
    let a = c.args in
    text-found a.p.now a.room a.starts.now a.verdict c.requires c.in_ok-count.count c.in_ok-count.ensures a.id c.find_among.result c.find_among.ensures
