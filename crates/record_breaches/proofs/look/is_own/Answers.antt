-- `record_breaches::look::is_own` meets its contract.
use mathlib.Core.Path.{sym, ap, ap₂, ◌∙◌}
use mathlib.Core.Bool.{Bool, not, ◌||◌}
use native.Mathlib.Omega.{arith}
use Rattle.records.specs.Layout.{kind_code}
use Rattle.pool.proofs.Starts.{entries-long}
use Rattle.rules.specs.Table.{bad_own, repeats}
use Rattle.record_breaches.specs.Others.{pool_around, records_around}
use Rattle.record_breaches.proofs.Rows.{owned-clear}
use Rattle.record_breaches.proofs.Others.{starts_around, inside, own-id}
use Rattle.record_breaches.proofs.look.is_own.Goals as goal

pub returns-then-names : goal.returns-then-names
returns-then-names c t =
    let r = c.args.other.now in
    owned-clear (records_around r) r.i (kind_code r.kind) (r.pool.now.names.own_ids c.if-names.true) (omega (arith, inside r, entries-long (pool_around r) (starts_around r))) (sym r.told) c.requires

pub returns : goal.returns
unfolding repeats
returns c t =
    let r = c.args.other.now in
    sym (ap₂ (λ (x y : Bool). not (x || y)) (c.is_bad_id-bad.ensures ∙ ap (bad_own (kind_code r.kind)) (own-id r c.id_at.result c.id_at.ensures)) c.repeats_id.ensures) ∙ t
