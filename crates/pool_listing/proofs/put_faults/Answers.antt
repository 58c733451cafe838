-- `pool_listing::put_faults` meets its contract: the lines of the faults passed so far are written.
use mathlib.Core.Path.{◌≡◌, sym, ap, ◌∙◌}
use mathlib.Core.List.{List, [], ◌++◌}
use Prim.Native.Nat.{ℕ, ◌+◌, ◌*◌, ◌/◌, ◌≤◌, ◌<◌}
use native.Mathlib.Omega.{arith}
use lib.ListN.{length, get_or, take, drop}
use Rattle.std.specs.Simd.{first_chunks}
use Rattle.wire.specs.Bytes.{laid}
use Rattle.decimal.specs.Digits.{place_after}
use Rattle.faults.specs.Faults.{width}
use Rattle.listing.specs.Lines.{fault_line}
use Rattle.pool_listing.specs.Listing.{fault_lines}
use Rattle.pool_listing.specs.Parts.{faults_in}
use Rattle.pool_listing.proofs.Parts.{adds_none, adds_then, adds_same, line-adds}
use Rattle.pool_listing.proofs.Lengths.{fault-short}
use Rattle.pool_listing.proofs.Found.{no-faults, fault-more, row-at, line-at}
use Rattle.pool_listing.proofs.put_faults.Goals as goal

pub loop-number-init : goal.loop-number-init
loop-number-init c =
    let a = c.args in
    (adds_same (sym (no-faults a.faults.now)) (adds_none a.out.now a.from), omega arith)

pub loop-number-preserved : goal.loop-number-preserved
loop-number-preserved c =
    let b : List ℕ = c.args.faults.now in
    let fits = c.type_inv.faults in
    let l = c.loop-number in
    let i : ℕ = l.number-index in
    let k = width * i in
    let row : List ℕ = get_or c.as_chunks.result.0.now i [] in
    let given : List (List ℕ) = c.as_chunks.result.0.now in
    let front : given ≡ first_chunks width (length b / width) b = c.as_chunks.ensures.front in
    let long : length given ≡ length b / width = c.as_chunks.ensures.front_len in
    let within : i < length b / width = omega (arith, c.loop-number-test.true, long) in
    let is : row ≡ take width (drop k b) = row-at b given (length b / width) i front within in
    let line : List ℕ = fault_line (get_or row 0 0) (get_or row 1 0) (get_or row 2 0) (get_or row 3 0) (get_or row 4 0) in
    let put : (c.put_fault-at.new.out ≡ laid l.out l.at line) × (c.put_fault-at.result ≡ place_after l.out l.at line) = c.put_fault-at.ensures in
    let as-faults : line ≡ fault_line (get_or b k 0) (get_or b (k + 1) 0) (get_or b (k + 2) 0) (get_or b (k + 3) 0) (get_or b (k + 4) 0) = line-at b row k is in
    let short : length line ≤ 36 = rw as-faults (fault-short (get_or b k 0) (get_or b (k + 1) 0) (get_or b (k + 2) 0) (get_or b (k + 3) 0) (get_or b (k + 4) 0) (omega (arith, fits k)) (omega (arith, fits (k + 1))) (omega (arith, fits (k + 2))) (omega (arith, fits (k + 3))) (omega (arith, fits (k + 4)))) in
    let next = line-adds l.out l.at line (omega (arith, c.requires, l.invariant.1, l.auto.out)) put in
    (adds_same (ap (λ (x : List ℕ). fault_lines (faults_in i b) ++ x) as-faults ∙ sym (fault-more i b)) (adds_then (fault_lines (faults_in i b)) line l.invariant.0 next), omega (arith, next.place))

pub returns : goal.returns
returns c =
    let l = c.loop-number in
    let b : List ℕ = c.args.faults.now in
    let given : List (List ℕ) = c.as_chunks.result.0.now in
    let long : length given ≡ length b / width = c.as_chunks.ensures.front_len in
    let all : l.number-index ≡ length b / width = omega (arith, long, c.loop-number-test.false, l.auto.number-index-end) in
    (rw all at l.invariant.0, omega arith)
