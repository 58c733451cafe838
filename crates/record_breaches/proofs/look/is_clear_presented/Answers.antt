-- `record_breaches::look::is_clear_presented` meets its contract.
use mathlib.Core.Path.{◌≡◌, sym, ap, ◌∙◌}
use mathlib.Core.Logic.{⊎_elim}
use Prim.Native.Nat.{ℕ, ◌+◌}
use native.Mathlib.Omega.{arith}
use lib.ListN.{get_or}
use Rattle.records.specs.Layout.{kind_code}
use Rattle.rules.specs.Table.{kind_rows}
use Rattle.faults.specs.Rows.{AllClear}
use borrow.Author.Tests.{eq-eqb}
use Rattle.rules.proofs.Truth.{untrue}
use Rattle.record_breaches.specs.Others.{pool_around, records_around}
use Rattle.record_breaches.proofs.Looking.{data-looked, property-looked}
use Rattle.record_breaches.proofs.Rows.{record-looked}
use Rattle.record_breaches.proofs.Others.{starts_around, few, starts-read}
use Rattle.record_breaches.proofs.look.is_clear_presented.Goals as goal

pub offset_bounds-names-other : goal.offset_bounds-names-other
offset_bounds-names-other g c = omega (arith, few c.args.other.now)

pub returns-then-p-text_at : goal.returns-then-p-text_at
returns-then-p-text_at g c t = untrue t

pub returns-then-p-to : goal.returns-then-p-to
returns-then-p-to g c t = untrue t

pub returns-then-not-is_own : goal.returns-then-not-is_own
returns-then-not-is_own g c t = untrue t

pub returns-then-not-is_sound_in : goal.returns-then-not-is_sound_in
returns-then-not-is_sound_in g c t = untrue t

pub returns : goal.returns
returns g c t =
    let r = c.args.other.now in
    let p = pool_around r in
    let es = records_around r in
    let at = get_or (starts_around r) r.i 0 in
    let kind = kind_code r.kind in
    let text = at + g.row.TEXT in
    let sound = sym c.is_sound_in.ensures ∙ c.if-not-is_sound_in.false in
    let by_data : (kind ≡ 3) × (g.row.TEXT ≡ 9) → AllClear (kind_rows p es r.i kind) =
    λ q.
    let fit = rw (eq-eqb kind 3 q.0) at (sym c.is_fit.ensures ∙ c.if-not-is_fit.false) in
    data-looked p es kind at text c.within.result c.within.ensures sound (c.is_presented.ensures t) r.i (starts-read r) q.0 (ap (λ (x : ℕ). at + x) q.1)
    fit
    in
    let by_property : (kind ≡ 4) × (g.row.TEXT ≡ 11) → AllClear (kind_rows p es r.i kind) =
    λ q. property-looked p es kind at text c.within.result c.within.ensures sound (c.is_presented.ensures t) r.i (starts-read r) q.0 (ap (λ (x : ℕ). at + x) q.1)
    in
    record-looked p es r.i kind r.told (c.is_own.ensures c.if-not-is_own.false) (⊎_elim by_data by_property c.requires)
