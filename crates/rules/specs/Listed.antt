-- The claim about the breach list: it is strictly ascending, so each fault occurs once, and has exactly the breaches. Definitions
-- only.
use Rattle.std.specs.Prelude.{ℕ, ◌↔◌}
use mathlib.Core.List.{List, Memᴰ}
use Rattle.pool.specs.Reading.{Entry}
use Rattle.faults.specs.Faults.{Fault, Ascending}
use Rattle.rules.specs.Breach.{Breach}
use Rattle.rules.specs.Table.{breaches_in}

-- the computed list has all breaches in order, and nothing else
pub record Listed (p : List ℕ) (es : List Entry) : Type 0 where
  pub ascending : Ascending (breaches_in p es)
  pub exact : (f : Fault) → Memᴰ f (breaches_in p es) ↔ Breach p es f.number f.rule f.item
