-- `faults::objects::ids_of` meets its contract.
use mathlib.Core.Path.{◌∙◌}
use Prim.Native.Nat.{◌-◌}
use native.Mathlib.Omega.{arith}
use Rattle.pool.proofs.Starts.{starts-marked}
use Rattle.faults.proofs.Completing.{ids-read}
use Rattle.faults.proofs.objects.ids_of.Goals as goal

pub parent_id-requires : goal.parent_id-requires
parent_id-requires c =
    let s = c in
    starts-marked s.args.records.now.pool.now s.args.records.now.starts.now s.args.records.now.divided (s.args.number - 1) (omega (arith, s.requires, c.if-number-eq0.false))

pub returns : goal.returns
returns c =
    let s = c in
    let ids = ids-read s.args.records.now.pool.now s.args.records.now.starts.now s.args.number c.if-number-eq0.false s.requires in
    (c.id.ensures ∙ ids.0, c.parent_id.ensures ∙ ids.1)
