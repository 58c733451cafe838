-- `chains::mark_numbers` meets its contract: the element numbers of the records passed so far are marked, and those of these records that repeat one.
use mathlib.Core.Bool.{Bool, ◌&&◌}
use mathlib.Core.List.{List}
use Prim.Native.Nat.{ℕ}
use lib.Dec.{eqb}
use lib.ListN.{length}
use Rattle.pool.specs.Reading.{Entry}
use Rattle.naming.specs.Entries.{entries_in}
use Rattle.naming.specs.Records.{kind_at}
use Rattle.rules.specs.Table.{repeats, element_key}
use Rattle.chains.specs.Noted.{Noted, HitsMarked}
use Rattle.chains.proofs.mark_numbers.Given as goal

-- record i is a device element with the number of an earlier one
abbrev pub repeated : List ℕ → List Entry → ℕ → Bool
repeated p es i = eqb (kind_at es i) 2 && repeats (element_key p es) (element_key p es i) i (length es)

abbrev pub invariant-loop-i : goal.invariant-loop-i
invariant-loop-i l =
    Noted 65536 (element_key l.records.pool.now (entries_in l.records)) l.i l.numbers × HitsMarked (repeated l.records.pool.now (entries_in l.records)) l.i l.marks
