-- `log_writing::any_of_list_over` meets its contract: the flag is that of the ordinals so far.
use Rattle.std.proofs.Common.{◌≡◌, take}
use Rattle.time_log.specs.Judging.{one_over}
use Rattle.log_writing.proofs.any_of_list_over.Given as goal

abbrev pub invariant-loop-ordinal : goal.invariant-loop-ordinal
invariant-loop-ordinal l = l.over ≡ one_over l.logged (take l.ordinal-index l.ordinals)
