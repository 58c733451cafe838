-- `time_log::contents::fields_of` meets its contract: the time and the days are before the optional fields.
use Rattle.std.proofs.Common.{arith}
use Rattle.time_log.proofs.Parts.{place-large}
use Rattle.time_log.proofs.contents.fields_of.Goals as goal

pub number-requires : goal.number-requires
number-requires c = (omega arith, omega (arith, place-large c.args.places.now.layout 9, c.requires))

pub number-requires-2 : goal.number-requires-2
number-requires-2 c = (omega arith, omega (arith, place-large c.args.places.now.layout 9, c.requires))
