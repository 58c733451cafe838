-- `naming::NamedRecords::repeats_id` meets its contract.
use native.Mathlib.Omega.{arith}
use Rattle.naming.proofs.Names.{names-room, names-few, first-unmarked}
use Rattle.naming.proofs.NamedRecords.repeats_id.Goals as goal

pub overflow_add-result : goal.overflow_add-result
overflow_add-result c = omega (arith, c.requires, names-few c.args.self.now)

pub offset_bounds-self-i : goal.offset_bounds-self-i
offset_bounds-self-i c = omega (arith, c.requires, names-room c.args.self.now, c.well_formed)

pub bounds-self-i : goal.bounds-self-i
bounds-self-i c = omega (arith, c.requires, names-room c.args.self.now)

pub returns : goal.returns
returns c = first-unmarked c.args.self.now c.args.i (omega (arith, c.requires))
