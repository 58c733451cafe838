-- `presentation::exact_sum` meets its contract: nothing wraps, and the f64 is exact.
use mir.Syntax.{w32, w64}
use mir.ValLaws.{to_z-of_z}
use Rattle.presentation.proofs.Sums.{widened, read_back, sum_fits, sum-held}
use Rattle.presentation.proofs.exact_sum.Goals as goal

pub overflow_cast-sum : goal.overflow_cast-sum
overflow_cast-sum c = rw (to_z-of_z w32 c.args.value c.ranges.value) (widened c.ranges.value)

pub overflow_cast-sum-2 : goal.overflow_cast-sum-2
overflow_cast-sum-2 c = rw (to_z-of_z w32 c.args.offset c.ranges.offset) (widened c.ranges.offset)

pub overflow_add-sum : goal.overflow_add-sum
overflow_add-sum c =
    rw (read_back c.args.value c.ranges.value, read_back c.args.offset c.ranges.offset)
    (sum_fits c.args.value c.args.offset c.ranges.value c.ranges.offset)

pub int_to_float-result : goal.int_to_float-result
int_to_float-result c =
    let a = c.args in
    let f = c.ranges in
    rw (read_back a.value f.value, read_back a.offset f.offset, to_z-of_z w64 _ (sum_fits a.value a.offset f.value f.offset))
    (sum-held a.value a.offset f.value f.offset)

pub returns : goal.returns
returns c =
    let a = c.args in
    let f = c.ranges in
    rw (read_back a.value f.value, read_back a.offset f.offset, to_z-of_z w64 _ (sum_fits a.value a.offset f.value f.offset))
