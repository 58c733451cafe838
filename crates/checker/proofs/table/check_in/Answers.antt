-- `checker::table::check_in`: the list that checking leaves gives the table after reading.
use Rattle.std.proofs.Common.{ℕ, ◌∙◌, ap}
use Rattle.checker.specs.Checking.{records_in}
use Rattle.working_table.specs.Rows.{gathered}
use Rattle.checker.proofs.Tables.{check-gathers}
use Rattle.checker.proofs.table.check_in.Goals as goal

pub gather-requires : goal.gather-requires
gather-requires g c =
    let v = c.check_by-verdict in
    let filled = check-gathers c.args.p.now v.new.starts (records_in v.result) c.args.table.now v.ensures.2 v.ensures.1 in
    rw c.records_of.ensures filled.fillable

pub returns : goal.returns
returns g c =
    let a = c.args in
    let v = c.check_by-verdict in
    let filled = check-gathers a.p.now v.new.starts (records_in v.result) a.table.now v.ensures.2 v.ensures.1 in (
      v.ensures.0,
      v.ensures.1,
      c.gather.ensures ∙ ap (λ (n : ℕ). gathered a.p.now v.new.starts n a.table.now) c.records_of.ensures ∙ filled.after,
      v.ensures.3,
    )
