-- `records::end::det_end` meets its contract.
use mathlib.Core.Path.{◌≡◌, refl, sym, ap, ◌∙◌}
use mathlib.Core.List.{List, [], ◌∷◌}
use Prim.Native.Nat.{ℕ, ◌+◌, ◌≤◌, ◌<◌}
use native.Mathlib.Omega.{arith}
use lib.ListN.{length, get_or}
use Rattle.std.specs.Prelude.{Ok, Err}
use Rattle.std.proofs.lemmas.Result.{err_from_is_err_and}
use Rattle.wire.specs.Bytes.{number_in}
use Rattle.records.specs.Layout.{Field, fixed, text, entries, layout}
use Rattle.records.specs.Extents.{field_end, fields_end}
use Rattle.records.specs.declared.Kind.TheVariants.{Det}
use Rattle.records.proofs.Ends.{count_cut, entries-tested}
use Rattle.records.proofs.Untested.{past-fixed, past-text, over-first, short, end-past, end-within}
use Rattle.records.proofs.end.det_end.Goals as goal

abbrev behind-designator : List Field
behind-designator = fixed 2 ∷ fixed 2 ∷ entries ∷ []

module _ (p : List ℕ) (at : ℕ) where
  from-designator : fields_end (layout Det) p (Ok at) ≡ fields_end (text 128 ∷ behind-designator) p (Ok (at + 3))
  unfolding layout
  from-designator =
      past-fixed 2 (fixed 1) (text 128 ∷ behind-designator) p at (at + 2) refl ∙ past-fixed 1 (text 128) behind-designator p (at + 2) (at + 3) (omega arith)

  to-entries : (end count_at : ℕ) → end + 4 ≡ count_at → fields_end behind-designator p (Ok end) ≡ field_end entries p count_at
  to-entries end count_at e = past-fixed 2 (fixed 2) (entries ∷ []) p end (end + 2) refl ∙ past-fixed 2 entries [] p (end + 2) count_at (omega arith)

  from-entries : (count_at : ℕ) → at + 3 < length p → get_or p (at + 3) 0 ≤ 128 → count_at ≡ at + 8 + get_or p (at + 3) 0 → fields_end (layout Det) p (Ok at) ≡ field_end entries p count_at
  from-entries count_at h k e =
      from-designator ∙ past-text 128 (fixed 2) (fixed 2 ∷ entries ∷ []) p (at + 3) h k ∙ to-entries (at + 3 + 1 + get_or p (at + 3) 0) count_at (omega arith)

pub returns-then-p-least : goal.returns-then-p-least
returns-then-p-least c =
    let a = c.args in
    let p = a.p.now in
    let size = get_or p (a.at + 3) 0 in
    ap Err c.short_flaw.ensures
    ∙ short 128 (fixed 2) (fixed 2 ∷ entries ∷ []) p (a.at + 3) (λ h k. to-entries p a.at (a.at + 3 + 1 + size) (a.at + 8 + size) (omega arith) ∙ count_cut p (a.at + 8 + size) (omega (arith, c.if-p-least.true)))
    ∙ sym (from-designator p a.at)

pub returns-then-size-gt128 : goal.returns-then-size-gt128
returns-then-size-gt128 c =
    let a = c.args in
    let here : a.at + 3 < length a.p.now = omega (arith, c.if-p-least.false) in
    sym (from-designator a.p.now a.at ∙ over-first 128 behind-designator a.p.now (a.at + 3) here c.if-size-gt128.true)

pub returns-in_err-entries_at : goal.returns-in_err-entries_at
returns-in_err-entries_at c =
    let a = c.args in
    let p = a.p.now in
    let count_at = a.at + 8 + get_or p (a.at + 3) 0 in
    let here : a.at + 3 < length p = omega (arith, c.if-p-least.false) in
    let past = end-past _ p _ c.in_err-entries_at.ensures.exact in
    let q = err_from_is_err_and c.from_residual.result c.from_residual.ensures.1 in
    rw (q.1, q.2, past.1) (sym (from-entries p a.at count_at here c.if-size-gt128.false refl ∙ count_cut p count_at (omega (arith, past.0))))

pub returns : goal.returns
returns c =
    let a = c.args in
    let p = a.p.now in
    let count_at = a.at + 8 + get_or p (a.at + 3) 0 in
    let here : a.at + 3 < length p = omega (arith, c.if-p-least.false) in
    let fits = end-within _ p _ c.in_ok-entries_at.ensures.exact in
    let there : count_at + 2 ≤ length p = omega (arith, fits) in
    let count : c.within-count.result ≡ number_in 2 p count_at = c.within-count.ensures ∙ ap (number_in 2 p) (omega (arith, fits.1)) in
    c.end_within-2.ensures.exact
    ∙ entries-tested p count_at _ there (omega (arith, fits.1, count))
    ∙ sym (from-entries p a.at count_at here c.if-size-gt128.false refl)
