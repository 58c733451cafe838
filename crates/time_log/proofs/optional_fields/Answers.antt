-- `time_log::optional_fields` meets its contract: the ones among the nine bits are the marks that are set.
use Rattle.std.proofs.Common.{◌≤◌, arith}
use borrow.Author.Tests.{le-ltb}
use Rattle.time_log.proofs.Nine.{ones-are-marks}
use Rattle.time_log.proofs.optional_fields.Goals as goal

pub returns : goal.returns
returns c =
    let h : c.args.layout ≤ 511 = c.in_ok-judge_layout.ensures in
    rw (le-ltb 511 c.args.layout h, ones-are-marks c.args.layout (omega arith))
