-- `time_log::judging::any_over` meets its contract: the result is that of the ordinals that are still to be looked at.
use mathlib.Core.Path.{◌≡◌}
use Prim.Native.Nat.{◌+◌, ◌*◌}
use Rattle.time_log.specs.Contents.{spaced}
use Rattle.time_log.specs.Judging.{one_over}
use Rattle.time_log.proofs.judging.any_over.Given as goal

abbrev pub invariant-loop-left : goal.invariant-loop-left
invariant-loop-left l =
    (one_over l.logged (spaced 5 l.left l.s l.p) ≡ one_over l.logged (spaced 5 l.n l.s l.at)) × (l.p + 5 * l.left ≡ l.at + 5 * l.n) × (l.limit ≡ l.logged)

abbrev pub decreases-loop-left : goal.decreases-loop-left
decreases-loop-left l = l.left
