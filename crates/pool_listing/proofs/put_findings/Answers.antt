-- `pool_listing::put_findings` meets its contract.
use mathlib.Core.Path.{◌≡◌, sym, ap, ◌∙◌}
use mathlib.Core.List.{List}
use Prim.Native.Nat.{◌*◌, ◌≤◌}
use native.Mathlib.Omega.{arith}
use lib.ListN.{length}
use Rattle.faults.specs.Faults.{FaultEntry, width}
use Rattle.listing.specs.Lines.{accepted_line}
use Rattle.pool_listing.specs.Listing.{fault_lines}
use Rattle.pool_listing.specs.Parts.{Held}
use Rattle.pool_listing.proofs.Parts.{adds_same, line-adds}
use Rattle.pool_listing.proofs.Lengths.{accepted-short}
use Rattle.pool_listing.proofs.Found.{none_found, some-found, shown, count-alone, alone}
use Rattle.pool_listing.proofs.put_findings.Goals as goal

pub returns-then-found-eq0 : goal.returns-then-found-eq0
returns-then-found-eq0 c =
    let a = c.args in
    let short = accepted-short in
    let next = line-adds a.out.now a.from accepted_line (omega arith) c.put_accepted.ensures in
    (λ (fs : List FaultEntry) (h : Held a.faults.now fs) (e : a.found ≡ length fs). adds_same (none_found fs (sym c.if-found-eq0.true ∙ e)) next, omega (arith, next.place))

pub returns : goal.returns
returns c =
    let a = c.args in
    let b = a.faults.now in
    let n = c.min-listed.result in
    let m = c.min-listed.ensures in
    let within : n * width ≤ length b = omega (arith, m, c.requires.0) in (
      λ (fs : List FaultEntry) (h : Held b fs) (e : a.found ≡ length fs). adds_same (ap fault_lines (alone n b within ∙ rw m (shown b fs h a.found e)) ∙ some-found fs (λ (z : length fs ≡ 0). c.if-found-eq0.false (e ∙ z))) c.put_faults.ensures.0,
      omega (arith, c.put_faults.ensures.1, m, count-alone n b within),
    )
