-- `reference_rules::put_numbered` meets its contract.
use Rattle.faults.proofs.Adding.{adds_then}
use Rattle.reference_rules.proofs.put_numbered.Goals as goal

pub returns : goal.returns
returns c = adds_then c.put_if.ensures c.put_if-2.ensures
