-- The records of a pool by their number in it, counted from 0. Definitions only.
use Rattle.std.specs.Prelude.{ℕ, List}
use Rattle.pool.specs.Reading.{Entry}
pub use Rattle.pool.specs.Reading.{no_entry, record_at}

-- where record i starts
abbrev pub start_at : List Entry → ℕ → ℕ
start_at es i = (record_at es i).start

-- the ID of record i
abbrev pub id_at : List Entry → ℕ → ℕ
id_at es i = (record_at es i).id

-- the number of record i's kind
abbrev pub kind_at : List Entry → ℕ → ℕ
kind_at es i = (record_at es i).kind
