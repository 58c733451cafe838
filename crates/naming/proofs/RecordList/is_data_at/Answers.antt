-- `naming::RecordList::is_data_at` meets its contract.
use mathlib.Core.Path.{ap, ◌∙◌}
use Prim.Native.Nat.{◌-◌}
use native.Mathlib.Omega.{arith}
use Rattle.pool.proofs.Starts.{starts-marked}
use Rattle.naming.specs.Naming.{is_data_kind}
use Rattle.naming.proofs.Starts.{kind-read}
use Rattle.naming.proofs.RecordList.is_data_at.Goals as goal

pub returns-then-number-eq0 : goal.returns-then-number-eq0
returns-then-number-eq0 c = rw c.if-number-eq0.true

pub is_data-requires : goal.is_data-requires
is_data-requires c =
    starts-marked c.args.self.now.pool.now c.args.self.now.starts.now c.args.self.now.divided (c.args.number - 1) (omega (arith, c.requires, c.if-number-eq0.false))

pub returns : goal.returns
returns c = c.is_data.ensures ∙ ap is_data_kind (kind-read c.args.self.now.pool.now c.args.self.now.starts.now c.args.number c.if-number-eq0.false c.requires)
