-- `reference_rules::ddi_at` meets its contract: the record lies in the pool.
use mathlib.Core.Path.{◌≡◌, ◌∙◌}
use Prim.Native.Nat.{◌-◌}
use native.Mathlib.Omega.{arith}
use Rattle.pool.proofs.Starts.{starts-within}
use Rattle.reference_rules.proofs.Tags.{ddi-read}
use Rattle.reference_rules.proofs.ddi_at.Goals as goal

pub overflow_sub-number : goal.overflow_sub-number
overflow_sub-number c = let some : (c.args.number ≡ 0 → ⊥) = c.requires.0 in omega arith

pub overflow_add-records : goal.overflow_add-records
overflow_add-records c =
    let some : (c.args.number ≡ 0 → ⊥) = c.requires.0 in
    let records = c.args.records.now in
    omega (arith, starts-within records.pool.now records.starts.now records.divided (c.args.number - 1) (omega (arith, c.requires.1)), records.divided.short)

pub within-requires : goal.within-requires
within-requires c =
    let some : (c.args.number ≡ 0 → ⊥) = c.requires.0 in
    omega (arith, starts-within c.args.records.now.pool.now c.args.records.now.starts.now c.args.records.now.divided (c.args.number - 1) (omega (arith, c.requires.1)))

pub returns : goal.returns
returns c = c.within.ensures ∙ ddi-read c.args.records.now.pool.now c.args.records.now.starts.now c.args.number c.requires.0 c.requires.1
