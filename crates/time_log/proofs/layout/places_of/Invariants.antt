-- `time_log::layout::places_of` meets its contract: the places up to this field are right.
use Rattle.std.proofs.Common.{◌≡◌, ℕ, ◌≤◌, length, get_or}
use Rattle.time_log.specs.Layout.{place_of}
use Rattle.time_log.proofs.layout.places_of.Given as goal

abbrev pub invariant-loop-k : goal.invariant-loop-k
invariant-loop-k l = record { long : length l.starts ≡ 10; placed : (j : ℕ) → j ≤ l.k → get_or l.starts j 0 ≡ place_of l.layout j }
