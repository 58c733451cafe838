-- `records::end::dpt_end` meets its contract.
use mathlib.Core.Path.{◌≡◌, refl, sym, ap, ◌∙◌}
use mathlib.Core.List.{List, [], ◌∷◌}
use Prim.Native.Nat.{ℕ, ◌+◌, ◌<◌, ◌≤◌}
use native.Mathlib.Omega.{arith}
use lib.ListN.{length, get_or}
use Rattle.std.specs.Prelude.{Ok}
use Rattle.records.specs.Layout.{fixed, text, layout}
use Rattle.records.specs.Extents.{fields_end}
use Rattle.records.specs.declared.Kind.TheVariants.{Dpt}
use Rattle.records.proofs.Ends.{text-missing, fixed-tested}
use Rattle.records.proofs.Untested.{past-fixed, past-text, over-first}
use Rattle.records.proofs.end.dpt_end.Goals as goal

from-designator : (p : List ℕ) (at : ℕ) → fields_end (layout Dpt) p (Ok at) ≡ fields_end (text 128 ∷ fixed 2 ∷ []) p (Ok (at + 8))
unfolding layout
from-designator p at =
    past-fixed 2 (fixed 2) (fixed 4 ∷ text 128 ∷ fixed 2 ∷ []) p at (at + 2) refl
    ∙ past-fixed 2 (fixed 4) (text 128 ∷ fixed 2 ∷ []) p (at + 2) (at + 4) (omega arith)
    ∙ past-fixed 4 (text 128) (fixed 2 ∷ []) p (at + 4) (at + 8) (omega arith)

pub returns-then-p-at : goal.returns-then-p-at
returns-then-p-at c =
    let a = c.args in
    let past : length a.p.now ≤ a.at + 8 = omega (arith, c.if-p-at.true) in
    sym (from-designator a.p.now a.at ∙ ap (fields_end (fixed 2 ∷ []) a.p.now) (text-missing 128 a.p.now (a.at + 8) past))

pub returns-then-size-gt128 : goal.returns-then-size-gt128
returns-then-size-gt128 c =
    let a = c.args in
    let here : a.at + 8 < length a.p.now = omega (arith, c.if-p-at.false) in
    sym (from-designator a.p.now a.at ∙ over-first 128 (fixed 2 ∷ []) a.p.now (a.at + 8) here c.if-size-gt128.true)

pub returns : goal.returns
returns c =
    let a = c.args in
    let here : a.at + 8 < length a.p.now = omega (arith, c.if-p-at.false) in
    c.end_within.ensures.exact
    ∙ fixed-tested 2 a.p.now (a.at + 8 + 1 + get_or a.p.now (a.at + 8) 0) _ (omega arith)
    ∙ sym (from-designator a.p.now a.at ∙ past-text 128 (fixed 2) [] a.p.now (a.at + 8) here c.if-size-gt128.false)
