-- `records::end::dvc_end` meets its contract.
use mathlib.Core.Path.{◌≡◌, refl, sym, ap, ◌∙◌}
use mathlib.Core.List.{List, [], ◌∷◌}
use Prim.Native.Nat.{ℕ, ◌+◌}
use Rattle.std.specs.Prelude.{Ok}
use Rattle.std.proofs.lemmas.Result.{err_from_is_err_and}
use Rattle.records.specs.Layout.{Field, fixed, text, layout}
use Rattle.records.specs.Extents.{field_end, fields_end}
use Rattle.records.specs.declared.Kind.TheVariants.{Dvc}
use Rattle.records.proofs.Untested.{past-fixed, bad-first}
use Rattle.records.proofs.end.dvc_end.Goals as goal

-- the fields behind the first, the second and the third text
abbrev behind-serial : List Field
behind-serial = fixed 7 ∷ fixed 7 ∷ text 32 ∷ []

abbrev behind-version : List Field
behind-version = fixed 8 ∷ text 128 ∷ behind-serial

abbrev behind-designator : List Field
behind-designator = text 128 ∷ behind-version

-- the same fields end the same from each text on
module _ (p : List ℕ) (at : ℕ) where
  from-designator : fields_end (layout Dvc) p (Ok at) ≡ fields_end (text 128 ∷ behind-designator) p (Ok (at + 2))
  unfolding layout
  from-designator = past-fixed 2 (text 128) behind-designator p at (at + 2) refl

  module _ (version_at : ℕ) (designator : Ok version_at ≡ field_end (text 128) p (at + 2)) where
    from-version : fields_end (layout Dvc) p (Ok at) ≡ fields_end behind-designator p (Ok version_at)
    from-version = from-designator ∙ ap (fields_end behind-designator p) (sym designator)

    module _ (name_at : ℕ) (version : Ok name_at ≡ field_end (text 128) p version_at) where
      from-serial : fields_end (layout Dvc) p (Ok at) ≡ fields_end (text 128 ∷ behind-serial) p (Ok (name_at + 8))
      from-serial =
          from-version ∙ ap (fields_end behind-version p) (sym version) ∙ past-fixed 8 (text 128) behind-serial p name_at (name_at + 8) refl

      from-extended : (structure_at : ℕ) → Ok structure_at ≡ field_end (text 128) p (name_at + 8) → fields_end (layout Dvc) p (Ok at) ≡ field_end (text 32) p (structure_at + 7 + 7)
      from-extended structure_at serial =
          from-serial
          ∙ ap (fields_end behind-serial p) (sym serial)
          ∙ past-fixed 7 (fixed 7) (text 32 ∷ []) p structure_at (structure_at + 7) refl
          ∙ past-fixed 7 (text 32) [] p (structure_at + 7) (structure_at + 7 + 7) refl

pub returns-in_err-version_at : goal.returns-in_err-version_at
returns-in_err-version_at c =
    let a = c.args in
    let q = err_from_is_err_and c.from_residual.result c.from_residual.ensures.1 in
    rw (q.1, q.2) (bad-first (text 128) behind-designator _ _ _ c.in_err-version_at.ensures.exact ∙ sym (from-designator a.p.now a.at))

pub returns-in_err-name_at : goal.returns-in_err-name_at
returns-in_err-name_at c =
    let a = c.args in
    let q = err_from_is_err_and c.from_residual-in_err-name_at.result c.from_residual-in_err-name_at.ensures.1 in
    rw (q.1, q.2) (bad-first (text 128) behind-version _ _ _ c.in_err-name_at.ensures.exact
    ∙ sym (from-version a.p.now a.at _ c.in_ok-version_at.ensures.exact))

pub returns-in_err-structure_at : goal.returns-in_err-structure_at
returns-in_err-structure_at c =
    let a = c.args in
    let q = err_from_is_err_and c.from_residual-in_err-structure_at.result c.from_residual-in_err-structure_at.ensures.1 in
    rw (q.1, q.2) (bad-first (text 128) behind-serial _ _ _ c.in_err-structure_at.ensures.exact
    ∙ sym (from-serial a.p.now a.at _ c.in_ok-version_at.ensures.exact _ c.in_ok-name_at.ensures.exact))

pub returns : goal.returns
returns c =
    let a = c.args in
    c.text_end-4.ensures.exact
    ∙ sym (from-extended a.p.now a.at _ c.in_ok-version_at.ensures.exact _ c.in_ok-name_at.ensures.exact _ c.in_ok-structure_at.ensures.exact)
