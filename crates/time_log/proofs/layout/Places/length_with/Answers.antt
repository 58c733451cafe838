-- `time_log::layout::Places::length_with` meets its contract: the count byte, and five bytes for each value.
use Rattle.std.proofs.Common.{arith}
use Rattle.time_log.specs.Layout.{record_length}
use Rattle.time_log.proofs.Parts.{place-small}
use Rattle.time_log.proofs.layout.Places.length_with.Goals as goal

pub overflow_add-result : goal.overflow_add-result
overflow_add-result c = omega (arith, place-small c.args.self.now.layout 9)

pub overflow_add-result-2 : goal.overflow_add-result-2
overflow_add-result-2 c = omega (arith, place-small c.args.self.now.layout 9)

pub returns : goal.returns
unfolding record_length
returns c = rw c.count.ensures
