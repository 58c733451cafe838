-- How long the lines are. Assumes nothing.
use Prim.Native.Nat.{ℕ, zero, suc, ◌≤◌, ◌<◌, ◌^◌}
use native.Mathlib.Omega.{arith}
use lib.ListN.{length, length-append}
use Rattle.records.specs.Layout.{mark}
use Rattle.decimal.specs.Digits.{digits}
use Rattle.decimal.proofs.Digits.{digits-few}
use Rattle.listing.specs.Lines.{letters, count_line, record_line, accepted_line, fault_line, refused_line}

-- a number of 16 bits has at most five digits
five : (x : ℕ) → x < 65536 → length (digits x) ≤ 5
five x h = digits-few 5 x (omega arith) (omega arith)

letters-short : (k : ℕ) → length (letters k) ≤ 3
unfolding letters mark
letters-short zero = omega arith
letters-short (suc zero) = omega arith
letters-short (suc (suc zero)) = omega arith
letters-short (suc (suc (suc zero))) = omega arith
letters-short (suc (suc (suc (suc zero)))) = omega arith
letters-short (suc (suc (suc (suc (suc zero))))) = omega arith
letters-short (suc (suc (suc (suc (suc (suc k)))))) = omega arith

pub record-short : (k i s z : ℕ) → i < 65536 → s < 65536 → z < 65536 → length (record_line k i s z) ≤ 32
unfolding record_line
record-short k i s z a b c =
    let m = letters-short k in
    let d = five i a in
    let e = five s b in
    let f = five z c in
    simp length-append (omega arith)

pub fault-short : (n u k i q : ℕ) → n < 65536 → u < 65536 → k < 65536 → i < 65536 → q < 65536 → length (fault_line n u k i q) ≤ 36
unfolding fault_line
fault-short n u k i q a b c d e =
    let v = five n a in
    let w = five u b in
    let x = five k c in
    let y = five i d in
    let z = five q e in
    simp length-append (omega arith)

pub count-short : (n : ℕ) → n ≤ 2048 → length (count_line n) ≤ 13
unfolding count_line
count-short n h =
    let d = digits-few 4 n (omega arith) (omega arith) in
    simp length-append (omega arith)

pub refused-short : (n v : ℕ) → n < 2 ^ 64 → v < 2 ^ 64 → length (refused_line n v) ≤ 50
unfolding refused_line
refused-short n v a b =
    let d = digits-few 20 n (omega arith) (omega arith) in
    let e = digits-few 20 v (omega arith) (omega arith) in
    simp length-append (omega arith)

pub accepted-short : length accepted_line ≤ 9
unfolding accepted_line
accepted-short = omega arith
