-- `records::end::text_within` meets its contract.
use mathlib.Core.Path.{refl, sym, ap, ◌∙◌}
use mathlib.Core.List.{[], ◌∷◌}
use Prim.Native.Nat.{◌+◌, ◌<◌}
use native.Mathlib.Omega.{arith}
use lib.ListN.{length, get_or}
use Rattle.std.specs.Prelude.{Err}
use Rattle.records.specs.Layout.{fixed, text}
use Rattle.records.proofs.Ends.{fixed-cut, fixed-tested}
use Rattle.records.proofs.Untested.{past-fixed, past-text, over-first, short}
use Rattle.records.proofs.end.text_within.Goals as goal

pub returns-then-p-least : goal.returns-then-p-least
returns-then-p-least c =
    let a = c.args in
    let text_at = a.at + a.n in
    ap Err c.short_flaw.ensures
    ∙ short a.limit (fixed a.m) [] a.p.now text_at (λ h k. fixed-cut a.m a.p.now (text_at + 1 + get_or a.p.now text_at 0) (omega (arith, c.if-p-least.true)))
    ∙ sym (past-fixed a.n (text a.limit) (fixed a.m ∷ []) a.p.now a.at text_at refl)

pub returns-then-limit-size : goal.returns-then-limit-size
returns-then-limit-size c =
    let a = c.args in
    let text_at = a.at + a.n in
    let here : text_at < length a.p.now = omega (arith, c.if-p-least.false) in
    sym (past-fixed a.n (text a.limit) (fixed a.m ∷ []) a.p.now a.at text_at refl ∙ over-first a.limit (fixed a.m ∷ []) a.p.now text_at here c.if-limit-size.true)

pub returns : goal.returns
returns c =
    let a = c.args in
    let text_at = a.at + a.n in
    let here : text_at < length a.p.now = omega (arith, c.if-p-least.false) in
    c.end_within.ensures.exact
    ∙ fixed-tested a.m a.p.now (text_at + 1 + get_or a.p.now text_at 0) _ (omega arith)
    ∙ sym (past-fixed a.n (text a.limit) (fixed a.m ∷ []) a.p.now a.at text_at refl ∙ past-text a.limit (fixed a.m) [] a.p.now text_at here c.if-limit-size.false)
