-- `naming::RecordList::kind_at` meets its contract.
use mathlib.Core.Path.{sym, ap, ◌∙◌}
use Prim.Native.Nat.{◌-◌}
use native.Mathlib.Omega.{arith}
use Rattle.records.specs.Layout.{mark_code}
use Rattle.pool.proofs.Starts.{starts-marked}
use Rattle.naming.proofs.Starts.{kind-read}
use Rattle.naming.proofs.RecordList.kind_at.Goals as goal

pub marked-requires : goal.marked-requires
marked-requires c =
    starts-marked c.args.self.now.pool.now c.args.self.now.starts.now c.args.self.now.divided (c.args.number - 1) (omega (arith, c.requires, c.if-number-eq0.false))

pub returns : goal.returns
returns c = sym (ap mark_code c.marked.ensures) ∙ kind-read c.args.self.now.pool.now c.args.self.now.starts.now c.args.number c.if-number-eq0.false c.requires
