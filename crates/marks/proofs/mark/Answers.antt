-- `marks::mark` meets its contract.
use lib.ListN.{length-set}
use Rattle.marks.proofs.Marking.{marked-bit}
use Rattle.marks.proofs.mark.Goals as goal

pub returns : goal.returns
returns c = (simp length-set, λ j l. marked-bit c.args.marks.now c.args.i c.requires j)
