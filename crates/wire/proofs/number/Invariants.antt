-- `wire::number` meets its contract: x is the number in the bytes passed so far, which end the part, from the highest down.
use mathlib.Core.Path.{◌≡◌}
use mathlib.Core.List.{List, ◌++◌}
use Prim.Native.Nat.{ℕ, ◌^◌, ◌<◌}
use lib.ListN.{length, take, drop}
use Rattle.wire.specs.Bytes.{le_of}
use Rattle.wire.proofs.number.Given as goal

abbrev pub invariant-loop-b : goal.invariant-loop-b
invariant-loop-b l =
    (passed : List ℕ) × (l.b-iterator.iter.rest.now ++ passed ≡ take l.w (drop l.at l.s)) × (l.x ≡ le_of passed) × (l.x < 256 ^ length passed)
