-- Checking, described by the division of a pool and by what a breach is: document 01, "The rule table". Definitions only.
use Rattle.std.specs.Prelude.{ℕ, suc, ◌*◌, ◌≤◌, ◌<◌, ◌≡◌, ◌↔◌, ◌⊎◌, length, take, drop}
use mathlib.Core.List.{List, ◌++◌, map, Memᴰ}
use Rattle.division.specs.Division.{Division}
use Rattle.pool.specs.Answer.{answer}
use Rattle.faults.specs.Faults.{Fault, FaultEntry, entry_for, width, flat, Ascending}
use Rattle.rules.specs.Breach.{Breach}
use Rattle.checker.specs.Checking.{check_of, faults_after}
use Rattle.claims.specs.Reads.{listed, Sized}

-- a buffer after faults were written: it starts with the numbers of the first entries, one entry after the other, and its other words are
-- as before. Either all faults are written, or there is no room for one more
pub record Holds (before : List ℕ) (faults : List FaultEntry) (after : List ℕ) : Type 0 where
  pub count : ℕ
  pub some : count ≤ length faults
  pub fits : width * count ≤ length before
  pub most : (count ≡ length faults) ⊎ (length before < width * suc count)
  pub same : after ≡ flat (take count faults) ++ drop (width * count) before

-- there is a list of faults, by which checking answers and fills the buffer
pub record Checked (p : List ℕ) (rs : List (List ℕ)) (d : Division p rs) (room : ℕ) : Type 0 where
  pub faults : List Fault
  -- it holds every breach and nothing else, sorted by record, rule and item, and therefore each once
  pub exact : (f : Fault) → Memᴰ f faults ↔ Breach p (listed rs d.whole 0) f.number f.rule f.item
  pub ascending : Ascending faults
  -- the full count is its length, and a buffer gets the first faults, as many as fit, each with the two IDs of its record's entry
  pub count : check_of p room ≡ answer 0 (length faults)
  pub buffer : (before : List ℕ) → Holds before (map (entry_for (listed rs d.whole 0)) faults) (faults_after p room before)

-- for every pool of 1 to 65,535 bytes that divides into records, with a table that holds them
abbrev pub Checks : Type 0
Checks = (p : List ℕ) (rs : List (List ℕ)) (d : Division p rs) (room : ℕ) → Sized p → length rs ≤ room → Checked p rs d room
