-- `wire::put` meets its contract: the bytes with those that are still to be written are the final ones.
use mathlib.Core.Path.{◌≡◌}
use Prim.Native.Nat.{◌-◌}
use lib.Seq.{sets}
use Rattle.wire.specs.Bytes.{bytes_of}
use Rattle.wire.proofs.put.Given as goal

abbrev pub invariant-loop-b : goal.invariant-loop-b
invariant-loop-b l = sets l.b-items l.b-index (bytes_of (l.w - l.b-index) l.rest) ≡ sets l.initial.b-items 0 (bytes_of l.w l.x)
