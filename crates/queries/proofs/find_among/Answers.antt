-- `queries::find_among` meets its contract.
use native.Mathlib.Omega.{arith}
use Rattle.queries.proofs.Asked.{index-listed, found_among}
use Rattle.queries.proofs.find_among.Goals as goal

pub bounds-records-i : goal.bounds-records-i
bounds-records-i c = omega (arith, index-listed c.args.records.now.pool.now c.args.records.now.starts.now c.args.records.now.divided c.args.id c.in-Some.i c.in-Some.ensures)

pub offset_bounds-records-i : goal.offset_bounds-records-i
offset_bounds-records-i c = omega (arith, index-listed c.args.records.now.pool.now c.args.records.now.starts.now c.args.records.now.divided c.args.id c.in-Some.i c.in-Some.ensures, c.well_formed)

pub returns-in-Some : goal.returns-in-Some
returns-in-Some c = found_among c.args.records.now.pool.now c.args.records.now.starts.now c.args.records.now.divided c.in-Some.i c.args.id c.text_in.result c.in-Some.ensures c.text_in.ensures
