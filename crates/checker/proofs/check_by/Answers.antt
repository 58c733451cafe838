-- `checker::check_by` meets its contract.
use native.Mathlib.Omega.{arith}
use Rattle.std.proofs.lemmas.Result.{err_from_is_err_and}
use Rattle.checker.proofs.Counting.{listed-room, listed-long, listed-divides, unnamed-left, counted, passed_on}
use Rattle.checker.proofs.check_by.Goals as goal

pub returns-in_err-records : goal.returns-in_err-records
returns-in_err-records c =
    let k = c.list_for in
    let e = err_from_is_err_and c.from_residual.result c.from_residual.ensures.1 in
    rw (e.1, e.2) (passed_on c.args.p.now c.args.room k.new.starts c.args.faults.now _ c.in_err-records.ensures.0 k.ensures.1)

pub overflow_add-listed : goal.overflow_add-listed
overflow_add-listed c = let k = c.list_for in omega (arith, listed-room c.args.p.now c.args.room k.new.starts _ c.in_ok-records.ensures.0 k.ensures.1, k.auto.starts)

pub slice_bounds-listed-end : goal.slice_bounds-listed-end
slice_bounds-listed-end c = let k = c.list_for in listed-room c.args.p.now c.args.room k.new.starts _ c.in_ok-records.ensures.0 k.ensures.1

pub slice_bounds-listed-end-2 : goal.slice_bounds-listed-end-2
slice_bounds-listed-end-2 c = let k = c.list_for in listed-long c.args.p.now c.args.room k.new.starts _ c.in_ok-records.ensures.0 k.ensures.1

pub count_faults-found-requires : goal.count_faults-found-requires
count_faults-found-requires c = let k = c.list_for in listed-divides c.args.p.now c.args.room k.new.starts _ c.in_ok-records.ensures.0 k.ensures.1

pub name_objects-requires : goal.name_objects-requires
name_objects-requires c =
    let k = c.list_for in
    let f = c.count_faults-found in
    (listed-divides c.args.p.now c.args.room k.new.starts _ c.in_ok-records.ensures.0 k.ensures.1, unnamed-left c.args.p.now c.args.room k.new.starts _ c.in_ok-records.ensures.0 k.ensures.1 c.args.faults.now _ f.result f.ensures)

pub returns : goal.returns
returns c =
    let a = c.args in
    let k = c.list_for in
    counted a.p.now a.room k.new.starts _ c.in_ok-records.ensures.0 k.ensures.1 a.faults.now _ _ c.count_faults-found.result c.count_faults-found.ensures c.name_objects.ensures
