-- `time_log::judging::judge_record` meets its contract: the record is cut, or its fields are judged.
use mir.Syntax.{w32}
use mir.ValLaws.{to_z-of_z}
use Rattle.std.proofs.Common.{arith}
use Rattle.std.proofs.lemmas.Result.{err_from_is_err_and}
use Rattle.time_log.specs.Layout.{record_length}
use Rattle.time_log.specs.Contents.{values_counted}
use Rattle.time_log.proofs.Parts.{place-small, place-large, count_inside}
use Rattle.time_log.proofs.Refusals.{ends-inside, by-fields}
use Rattle.time_log.proofs.judging.judge_record.Goals as goal

pub returns-in_err-n-clause-number : goal.returns-in_err-n-clause-number
returns-in_err-n-clause-number c =
    let a = c.args in
    let p = err_from_is_err_and c.from_residual.result c.from_residual.ensures.1 in
    rw (p.1, p.2, c.in_err-n.ensures.0) (ends-inside a.places.now.layout a.logged a.bytes.now c.requires c.in_err-n.ensures.1)

pub number-time-requires : goal.number-time-requires
number-time-requires c =
    let a = c.args in
    (omega arith, omega (arith, place-large a.places.now.layout 9, count_inside a.places.now.layout (values_counted a.places.now.layout a.bytes.now), c.in_ok-n.ensures.2))

pub part-requires : goal.part-requires
part-requires c =
    let a = c.args in
    (omega arith, omega (arith, count_inside a.places.now.layout (values_counted a.places.now.layout a.bytes.now), c.in_ok-n.ensures.2))

pub part-requires-2 : goal.part-requires-2
part-requires-2 c =
    let a = c.args in
    (omega arith, omega (arith, count_inside a.places.now.layout (values_counted a.places.now.layout a.bytes.now), c.in_ok-n.ensures.2))

pub part-status-requires : goal.part-status-requires
part-status-requires c =
    let a = c.args in
    (omega arith, omega (arith, count_inside a.places.now.layout (values_counted a.places.now.layout a.bytes.now), c.in_ok-n.ensures.2))

pub overflow_add-count : goal.overflow_add-count
overflow_add-count c = omega (arith, place-small c.args.places.now.layout 9, c.count.ensures)

pub any_over-over-requires : goal.any_over-over-requires
unfolding record_length
any_over-over-requires c = omega (arith, c.count.ensures, c.in_ok-n.ensures.0, c.in_ok-n.ensures.2)

pub returns-in_err-judge_parts-clause-number : goal.returns-in_err-judge_parts-clause-number
returns-in_err-judge_parts-clause-number c =
    let a = c.args in
    let p = err_from_is_err_and c.from_residual-in_err-judge_parts.result c.from_residual-in_err-judge_parts.ensures.1 in
    rw (p.1, p.2)
    (by-fields a.places.now.layout a.logged a.bytes.now c.requires c.in_ok-n.ensures.2 _
    (rw (c.number-time.ensures.0, c.unsigned_abs-north.ensures.value, to_z-of_z w32 c.signed.result (record { sfits = c.signed.type_inv }), c.signed.ensures, c.part.ensures.0, c.unsigned_abs-east.ensures.value, to_z-of_z w32 c.signed-2.result (record { sfits = c.signed-2.type_inv }), c.signed-2.ensures, c.part-2.ensures.0, c.part-status.ensures.0, c.any_over-over.ensures, c.count.ensures, c.in_ok-n.ensures.0) at c.in_err-judge_parts.ensures))

pub returns-clause-number : goal.returns-clause-number
returns-clause-number c =
    let a = c.args in
    by-fields a.places.now.layout a.logged a.bytes.now c.requires c.in_ok-n.ensures.2 _
    (rw (c.number-time.ensures.0, c.unsigned_abs-north.ensures.value, to_z-of_z w32 c.signed.result (record { sfits = c.signed.type_inv }), c.signed.ensures, c.part.ensures.0, c.unsigned_abs-east.ensures.value, to_z-of_z w32 c.signed-2.result (record { sfits = c.signed-2.type_inv }), c.signed-2.ensures, c.part-2.ensures.0, c.part-status.ensures.0, c.any_over-over.ensures, c.count.ensures, c.in_ok-n.ensures.0) at c.in_ok-judge_parts.ensures)
