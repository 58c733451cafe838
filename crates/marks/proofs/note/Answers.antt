-- `marks::note` meets its contract.
use Rattle.marks.proofs.note.Goals as goal

pub returns : goal.returns
returns c = (c.is_marked-before.ensures, c.mark.ensures.0, c.mark.ensures.1)
