-- `wire::number_at` meets its contract: bytes past the end add nothing.
use mathlib.Core.Path.{sym, ◌∙◌}
use native.Mathlib.Nat.{lt_of_lt_of_le}
use native.Mathlib.Omega.{arith}
use Rattle.wire.proofs.Width.{past_end, cut_short, positive, narrower}
use Rattle.wire.proofs.number_at.Goals as goal

pub returns-then-s-at : goal.returns-then-s-at
returns-then-s-at c =
    let a = c.args in
    (sym (past_end a.w a.s.now a.at (omega arith)), positive a.w)

pub returns-then-s-at-2 : goal.returns-then-s-at-2
returns-then-s-at-2 c =
    let a = c.args in
    let e = c.number.ensures in
    (e.0 ∙ cut_short a.w a.s.now a.at (omega arith), lt_of_lt_of_le e.1 (narrower _ a.w (omega arith)))
