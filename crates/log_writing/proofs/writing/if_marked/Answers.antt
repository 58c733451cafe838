-- `log_writing::writing::if_marked` meets its contract: a field that is not marked has no bytes.
use Rattle.std.proofs.Common.{◌≡◌, arith}
use borrow.Author.Tests.{eq-eqb, ne_eqb}
use Rattle.time_log.specs.Layout.{width, part_width}
use Rattle.time_log.proofs.Parts.{unmarked, marked, width_some}
use Rattle.log_writing.proofs.writing.if_marked.Goals as goal

pub returns-then-layout-k-eq0 : goal.returns-then-layout-k-eq0
returns-then-layout-k-eq0 g c =
    let a = c.args in
    rw (eq-eqb _ _ (unmarked a.layout a.k c.if-layout-k-eq0.true))

pub returns-else-layout-k-eq0 : goal.returns-else-layout-k-eq0
returns-else-layout-k-eq0 g c =
    let a = c.args in
    let e : part_width a.layout a.k ≡ width a.k = marked a.layout a.k c.if-layout-k-eq0.false in
    rw (ne_eqb (part_width a.layout a.k) 0 (λ z. absurd (omega (arith, z, e, width_some a.k c.requires))))
