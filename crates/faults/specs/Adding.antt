-- For the functions that write faults to a list: no statement about a whole check rests on these. Definitions only.
use Rattle.std.specs.Prelude.{ℕ, ◌+◌, ◌≤◌, ◌≡◌, List}
use Rattle.faults.specs.Rows.{Row}
use Rattle.faults.specs.Emission.{Puts}
use Rattle.faults.specs.declared.FaultList.{FaultList}

-- the faults of these rows of record n, at most so many, were added to a list, which has the same buffer as before
pub record Adds (n : ℕ) (rows : List Row) (limit : ℕ) (before after : FaultList) : Type 0 where
  pub same : after.buffer.ghost_name ≡ before.buffer.ghost_name
  pub puts : Puts n rows before.buffer.now before.count after.buffer.now after.count
  pub few : after.count ≤ before.count + limit
