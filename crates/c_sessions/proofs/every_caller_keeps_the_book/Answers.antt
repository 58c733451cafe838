-- `c_sessions::every_caller_keeps_the_book` meets its contract, which is the claim itself.
use Rattle.book.proofs.Lists.{booked}
use Rattle.c_sessions.specs.InC.{in_c}
use Rattle.c_sessions.proofs.InC.{follows}
use Rattle.c_sessions.proofs.every_caller_keeps_the_book.Goals as goal

pub returns : goal.returns
returns c = booked in_c follows
