-- `records::end::dvp_end` meets its contract.
use mathlib.Core.Path.{◌≡◌, refl, sym, ap, ◌∙◌}
use mathlib.Core.List.{List, [], ◌∷◌}
use Prim.Native.Nat.{ℕ, ◌+◌}
use native.Mathlib.Omega.{arith}
use native.Mathlib.Nat.{add-zero}
use Rattle.std.specs.Prelude.{Result, Ok, Err}
use Rattle.records.specs.Layout.{Field, fixed, text, layout}
use Rattle.records.specs.Extents.{field_end, fields_end}
use Rattle.records.specs.declared.Flaw.{Flaw}
use Rattle.records.proofs.Ends.{fixed-whole}
use Rattle.records.proofs.Range.{field-ends}
use Rattle.records.proofs.Untested.{past-fixed}
use Rattle.records.proofs.end.dvp_end.Goals as goal

-- no bytes more change nothing
nothing : (f : Field) (p : List ℕ) (at : ℕ) → fields_end (fixed 0 ∷ []) p (field_end f p at) ≡ field_end f p at
nothing f p at = go (field_end f p at) refl
  where
    go : (r : Result ℕ Flaw) → field_end f p at ≡ r → fields_end (fixed 0 ∷ []) p r ≡ r
    go (Ok e) is = fixed-whole 0 p e (omega (arith, field-ends f p at e is)) ∙ ap Ok (add-zero e)
    go (Err flaw) is = refl

pub returns : goal.returns
unfolding layout
returns c =
    let at = c.args.at in
    let p = c.args.p.now in
    c.text_within.ensures
    ∙ past-fixed 11 (text 128) (fixed 0 ∷ []) p at (at + 11) refl
    ∙ nothing (text 128) p (at + 11)
    ∙ sym
    (past-fixed 2 (fixed 4) (fixed 4 ∷ fixed 1 ∷ text 128 ∷ []) p at (at + 2) refl
    ∙ past-fixed 4 (fixed 4) (fixed 1 ∷ text 128 ∷ []) p (at + 2) (at + 6) (omega arith)
    ∙ past-fixed 4 (fixed 1) (text 128 ∷ []) p (at + 6) (at + 10) (omega arith)
    ∙ past-fixed 1 (text 128) [] p (at + 10) (at + 11) (omega arith))
