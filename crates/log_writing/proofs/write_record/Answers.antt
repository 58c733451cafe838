-- `log_writing::write_record` meets its contract: each return is a case of the definition.
use Rattle.std.proofs.Common.{◌≤◌, length, sym, ◌∙◌, arith, length-set}
use Rattle.std.proofs.lemmas.Result.{err_from_is_err_and}
use Rattle.time_log.specs.Layout.{record_length}
use Rattle.time_log.proofs.Parts.{place-small, count_inside}
use Rattle.time_log.proofs.Refusals.{refusal_some}
use Rattle.log_writing.specs.Writing.{kept_fields}
use Rattle.log_writing.proofs.Laying.{all_laid}
use Rattle.log_writing.proofs.Outcomes.{none-of-three, bad-layout, lists-too-short, bad-fields, no_room, writable, not_written, refused-as, written}
use Rattle.log_writing.proofs.write_record.Goals as goal

pub returns-in_err-judge_layout : goal.returns-in_err-judge_layout
returns-in_err-judge_layout c =
    let a = c.args in
    let p = err_from_is_err_and c.from_residual.result c.from_residual.ensures.1 in
    rw (p.1, p.2, c.in_err-judge_layout.ensures.1)
    (not_written a.to.now a.layout a.fields a.logged a.ordinals.now a.values.now a.count 47 (bad-layout a.to.now a.layout a.fields a.logged a.ordinals.now a.values.now a.count c.in_err-judge_layout.ensures.0) (λ e. absurd (omega (arith, e))))

pub returns-then-count-ordinals : goal.returns-then-count-ordinals
returns-then-count-ordinals c =
    let a = c.args in
    not_written a.to.now a.layout a.fields a.logged a.ordinals.now a.values.now a.count 48
    (lists-too-short a.to.now a.layout a.fields a.logged a.ordinals.now a.values.now a.count c.in_ok-judge_layout.ensures c.if-count-ordinals.true)
    (λ e. absurd (omega (arith, e)))

pub returns-in_err-judge_fields : goal.returns-in_err-judge_fields
returns-in_err-judge_fields c =
    let a = c.args in
    let p = err_from_is_err_and c.from_residual-in_err-judge_fields.result c.from_residual-in_err-judge_fields.ensures.1 in
    let j = rw (c.kept-kept.ensures, c.any_of_list_over-over.ensures) at c.in_err-judge_fields.ensures in
    rw (p.1, p.2)
    (refused-as a.to.now a.layout a.fields a.logged a.ordinals.now a.values.now a.count _
    (bad-fields a.to.now a.layout a.fields a.logged a.ordinals.now a.values.now a.count c.in_ok-judge_layout.ensures c.if-count-ordinals.false _ (sym j) (refusal_some _)))

pub returns-then-to-length : goal.returns-then-to-length
returns-then-to-length c =
    let a = c.args in
    let j = rw (c.kept-kept.ensures, c.any_of_list_over-over.ensures) at c.in_ok-judge_fields.ensures in
    not_written a.to.now a.layout a.fields a.logged a.ordinals.now a.values.now a.count 46
    (no_room a.to.now a.layout a.fields a.logged a.ordinals.now a.values.now a.count c.in_ok-judge_layout.ensures c.if-count-ordinals.false (sym j) (rw (c.length_with-length.ensures, c.places_of-places.ensures) at c.if-to-length.true))
    (λ e. absurd (omega (arith, e)))

pub put_fields-requires : goal.put_fields-requires
put_fields-requires c = omega (arith, count_inside c.places_of-places.result.layout c.args.count, c.length_with-length.ensures, c.if-to-length.false)

pub bounds-to-at : goal.bounds-to-at
bounds-to-at c = omega (arith, count_inside c.places_of-places.result.layout c.args.count, c.count-at.ensures, c.length_with-length.ensures, c.put_fields.auto.to, c.if-to-length.false)

pub overflow_add-at : goal.overflow_add-at
overflow_add-at c = omega (arith, place-small c.places_of-places.result.layout 9, c.count-at.ensures)

pub put_pairs-requires : goal.put_pairs-requires
unfolding record_length
put_pairs-requires c =
    let a = c.args in
    let h = none-of-three a.count (length a.ordinals.now) (length a.values.now) c.if-count-ordinals.false in
    (h.0, h.1, h.2, rw (length-set c.put_fields.new.to c.count-at.result a.count) (omega (arith, c.count-at.ensures, c.length_with-length.ensures, c.put_fields.auto.to, c.if-to-length.false)))

pub returns : goal.returns
returns c =
    let a = c.args in
    let j = rw (c.kept-kept.ensures, c.any_of_list_over-over.ensures) at c.in_ok-judge_fields.ensures in
    let room : record_length a.layout a.count ≤ length a.to.now = rw (c.length_with-length.ensures, c.places_of-places.ensures) at c.if-to-length.false in
    let w = written a.to.now a.layout a.fields a.logged a.ordinals.now a.values.now a.count (writable a.to.now a.layout a.fields a.logged a.ordinals.now a.values.now a.count c.in_ok-judge_layout.ensures c.if-count-ordinals.false (sym j) room) in (
      rw (c.length_with-length.ensures, c.places_of-places.ensures) w.0,
      all_laid a.to.now c.put_fields.new.to c.put_pairs.new.to a.layout (kept_fields a.layout a.fields) a.count a.ordinals.now a.values.now (rw (c.kept-kept.ensures, c.places_of-places.ensures) at c.put_fields.ensures) (rw (c.count-at.ensures, c.places_of-places.ensures) at c.put_pairs.ensures)
          ∙ w.1,
    )
