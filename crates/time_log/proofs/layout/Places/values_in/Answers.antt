-- `time_log::layout::Places::values_in` meets its contract: bytes that end before the count byte end before the record.
use Rattle.std.proofs.Common.{refl, arith}
use Rattle.time_log.specs.Contents.{values_counted}
use Rattle.time_log.proofs.Parts.{count_inside}
use Rattle.time_log.proofs.layout.Places.values_in.Goals as goal

pub returns-then-bytes-count : goal.returns-then-bytes-count
returns-then-bytes-count c =
    let a = c.args in
    (refl, omega (arith, count_inside a.self.now.layout (values_counted a.self.now.layout a.bytes.now), c.count.ensures, c.if-bytes-count.true))
