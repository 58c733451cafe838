-- `records::end::dpd_end` meets its contract.
use mathlib.Core.Path.{refl, sym, ◌∙◌}
use mathlib.Core.List.{[], ◌∷◌}
use Prim.Native.Nat.{◌+◌}
use native.Mathlib.Omega.{arith}
use Rattle.records.specs.Layout.{fixed, text, layout}
use Rattle.records.proofs.Untested.{past-fixed}
use Rattle.records.proofs.end.dpd_end.Goals as goal

pub returns : goal.returns
unfolding layout
returns c =
    let at = c.args.at in
    let p = c.args.p.now in
    c.text_within.ensures
    ∙ past-fixed 6 (text 128) (fixed 2 ∷ []) p at (at + 6) refl
    ∙ sym
    (past-fixed 2 (fixed 2) (fixed 1 ∷ fixed 1 ∷ text 128 ∷ fixed 2 ∷ []) p at (at + 2) refl
    ∙ past-fixed 2 (fixed 1) (fixed 1 ∷ text 128 ∷ fixed 2 ∷ []) p (at + 2) (at + 4) (omega arith)
    ∙ past-fixed 1 (fixed 1) (text 128 ∷ fixed 2 ∷ []) p (at + 4) (at + 5) (omega arith)
    ∙ past-fixed 1 (text 128) (fixed 2 ∷ []) p (at + 5) (at + 6) (omega arith))
