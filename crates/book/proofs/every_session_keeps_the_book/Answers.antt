-- `book::every_session_keeps_the_book` meets its contract, which is the claim itself.
use Rattle.book.specs.InRattle.{in_rattle}
use Rattle.book.proofs.Lists.{booked}
use Rattle.book.proofs.InRattle.{follows}
use Rattle.book.proofs.every_session_keeps_the_book.Goals as goal

pub returns : goal.returns
returns c = booked in_rattle follows
