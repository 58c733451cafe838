-- `working_table::row_at` meets its contract.
use native.Mathlib.Numerals.{add-one}
use Rattle.records.specs.Places.{id_of}
use Rattle.working_table.specs.Rows.{row_in}
use Rattle.working_table.proofs.row_at.Goals as goal

pub overflow_sub-result : goal.overflow_sub-result
overflow_sub-result c = let s = c in rw (add-one s.args.i) s.requires.rises

pub returns : goal.returns
unfolding row_in id_of
returns c = rw (c.kind_number.ensures, c.within.ensures, c.parent_id.ensures, add-one c.args.i)
