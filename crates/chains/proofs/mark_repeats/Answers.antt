-- `chains::mark_repeats` meets its contract.
use native.Mathlib.Omega.{arith}
use Rattle.naming.proofs.Lists.{blank}
use Rattle.chains.proofs.mark_repeats.Goals as goal

pub mark_numbers-requires : goal.mark_numbers-requires
mark_numbers-requires c = (omega arith, blank 8192, c.requires.0, c.requires.1)
