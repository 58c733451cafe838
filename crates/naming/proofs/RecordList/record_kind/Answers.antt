-- `naming::RecordList::record_kind` meets its contract.
use mathlib.Core.Path.{sym, ap, ◌∙◌}
use native.Mathlib.Omega.{arith}
use Rattle.records.specs.Layout.{mark_code}
use Rattle.pool.proofs.Starts.{starts-marked}
use Rattle.naming.proofs.Starts.{kind-is}
use Rattle.naming.proofs.RecordList.record_kind.Goals as goal

pub marked-requires : goal.marked-requires
marked-requires c = starts-marked c.args.self.now.pool.now c.args.self.now.starts.now c.args.self.now.divided c.args.i (omega (arith, c.requires))

pub returns : goal.returns
returns c = sym (ap mark_code c.marked.ensures) ∙ kind-is c.args.self.now.pool.now c.args.self.now.starts.now c.args.i (omega (arith, c.requires))
