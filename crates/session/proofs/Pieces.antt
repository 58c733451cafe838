-- A piece laid into the part of staging that is lent on. Assumes nothing.
use mathlib.Core.Path.{◌≡◌}
use mathlib.Core.List.{List, [], ◌++◌, append-nil, append_assoc}
use Prim.Native.Nat.{ℕ, ◌+◌, ◌-◌, ◌≤◌}
use native.Mathlib.Omega.{arith}
use native.Mathlib.Nat.{zero-add}
use borrow.Author.Tests.{le-leb}
use lib.ListN.{length, take, drop, length-drop, drop_of_length-le}
use lib.Seq.{sets, sets-eq, take_all, drop-drop}
use Rattle.wire.specs.Bytes.{laid}
use Rattle.wire.proofs.Laid.{laid-fits}

-- the rest of staging with the piece at its start, put back behind what is before it
pub put_back : (staging piece : List ℕ) (at : ℕ) → at + length piece ≤ length staging
    → take at staging ++ (laid (take (length staging - at) (drop at staging)) 0 piece ++ drop (length staging - at) (drop at staging)) ≡ sets staging at piece
put_back staging piece at h =
    let n : length (drop at staging) ≡ length staging - at = length-drop at staging in
    let e : take (length staging - at) (drop at staging) ≡ drop at staging = take_all (length staging - at) (drop at staging) (omega (arith, n)) in
    let z : drop (length staging - at) (drop at staging) ≡ [] = drop_of_length-le (drop at staging) {i = length staging - at} (omega (arith, n)) in
    let l : laid (drop at staging) 0 piece ≡ sets (drop at staging) 0 piece = laid-fits (drop at staging) 0 piece (le-leb (0 + length piece) (length (drop at staging)) (omega (arith, n))) in
    let s : sets (drop at staging) 0 piece ≡ piece ++ drop (0 + length piece) (drop at staging) = sets-eq piece (drop at staging) 0 (omega (arith, n)) in
    rw (e, z, append-nil, l, s, sets-eq piece staging at h, append_assoc, drop-drop, zero-add)
