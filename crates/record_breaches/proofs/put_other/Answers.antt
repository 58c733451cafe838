-- `record_breaches::put_other` meets its contract.
use mathlib.Core.Path.{ap, ◌∙◌}
use Rattle.records.specs.Layout.{kind_code}
use Rattle.faults.proofs.Adding.{adds-clear}
use Rattle.rules.specs.Table.{bad_own, repeats}
use Rattle.record_breaches.proofs.Others.{own-id}
use Rattle.record_breaches.proofs.put_other.Goals as goal

pub returns-then-is_clear_other : goal.returns-then-is_clear_other
returns-then-is_clear_other c = adds-clear (c.is_clear_other.ensures c.if-is_clear_other.true)

pub put_faults-requires : goal.put_faults-requires
unfolding repeats
put_faults-requires c =
    let r = c.args.other.now in
    (c.is_bad_id-bad.ensures ∙ ap (bad_own (kind_code r.kind)) (own-id r c.id_at.result c.id_at.ensures), c.repeats_id-again.ensures, c.requires)
