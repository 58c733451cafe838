-- `log_reading::read_record` meets its contract: each return is a case of the definition.
use Rattle.std.proofs.Common.{◌≡◌, ◌+◌, ◌<◌, ◌≤◌, length, sym, ◌∙◌, arith}
use Rattle.std.proofs.lemmas.Result.{err_from_is_err_and}
use Rattle.time_log.specs.Layout.{place_of, record_length}
use Rattle.time_log.specs.Contents.{values_counted, extent_of}
use Rattle.time_log.proofs.Parts.{place-small, count_inside}
use Rattle.time_log.proofs.Refusals.{not-a-layout, ends-inside, whole-record}
use Rattle.log_reading.proofs.Answers.{neither, lists-short, lists-long, after-refusal, refused-as, after-success}
use Rattle.log_reading.proofs.read_record.Goals as goal

pub returns-in_err-judge_layout : goal.returns-in_err-judge_layout
returns-in_err-judge_layout c =
    let a = c.args in
    let p = err_from_is_err_and c.from_residual.result c.from_residual.ensures.1 in
    rw (p.1, p.2)
    (refused-as a.layout a.logged a.bytes.now a.ordinals.now a.values.now _ (rw c.in_err-judge_layout.ensures.1 (not-a-layout a.layout a.logged a.bytes.now c.in_err-judge_layout.ensures.0)))

pub returns-in_err-count : goal.returns-in_err-count
returns-in_err-count c =
    let a = c.args in
    let p = err_from_is_err_and c.from_residual-in_err-count.result c.from_residual-in_err-count.ensures.1 in
    let short : length a.bytes.now < extent_of a.layout a.bytes.now = rw c.places_of-places.ensures at c.in_err-count.ensures.1 in
    rw (p.1, p.2)
    (refused-as a.layout a.logged a.bytes.now a.ordinals.now a.values.now _ (rw c.in_err-count.ensures.0 (ends-inside a.layout a.logged a.bytes.now c.in_ok-judge_layout.ensures short)))

pub overflow_add-pairs : goal.overflow_add-pairs
overflow_add-pairs c = omega (arith, place-small c.places_of-places.result.layout 9, c.count-pairs.ensures)

pub fields_of-fields-requires : goal.fields_of-fields-requires
fields_of-fields-requires c =
    let layout = c.places_of-places.result.layout in
    omega (arith, count_inside layout (values_counted layout c.args.bytes.now), c.in_ok-count.ensures.2)

pub any_over-over-requires : goal.any_over-over-requires
unfolding record_length
any_over-over-requires c = omega (arith, c.count-pairs.ensures, c.in_ok-count.ensures.0, c.in_ok-count.ensures.2)

pub returns-in_err-judge_fields : goal.returns-in_err-judge_fields
returns-in_err-judge_fields c =
    let a = c.args in
    let p = err_from_is_err_and c.from_residual-in_err-judge_fields.result c.from_residual-in_err-judge_fields.ensures.1 in
    let whole : extent_of a.layout a.bytes.now ≤ length a.bytes.now = rw c.places_of-places.ensures at c.in_ok-count.ensures.2 in
    rw (p.1, p.2)
    (refused-as a.layout a.logged a.bytes.now a.ordinals.now a.values.now _
    (whole-record a.layout a.logged a.bytes.now c.in_ok-judge_layout.ensures whole _
    (rw (c.fields_of-fields.ensures, c.any_over-over.ensures, c.count-pairs.ensures, c.in_ok-count.ensures.0, c.places_of-places.ensures) at c.in_err-judge_fields.ensures)))

pub returns-then-ordinals-count : goal.returns-then-ordinals-count
returns-then-ordinals-count c =
    let a = c.args in
    let whole : extent_of a.layout a.bytes.now ≤ length a.bytes.now = rw c.places_of-places.ensures at c.in_ok-count.ensures.2 in
    let x = whole-record a.layout a.logged a.bytes.now c.in_ok-judge_layout.ensures whole 0 (rw (c.fields_of-fields.ensures, c.any_over-over.ensures, c.count-pairs.ensures, c.in_ok-count.ensures.0, c.places_of-places.ensures) at c.in_ok-judge_fields.ensures) in
    after-refusal a.layout a.logged a.bytes.now a.ordinals.now a.values.now 46
    (lists-short a.layout a.logged a.bytes.now a.ordinals.now a.values.now (sym x) (rw (c.in_ok-count.ensures.0, c.places_of-places.ensures) at c.if-ordinals-count.true))
    (λ e. absurd (omega (arith, e)))

pub take_pairs-requires : goal.take_pairs-requires
unfolding record_length
take_pairs-requires c =
    let n = neither _ _ _ c.if-ordinals-count.false in
    (n.0, n.1, c.in_ok-count.ensures.1, omega (arith, c.count-pairs.ensures, c.in_ok-count.ensures.0, c.in_ok-count.ensures.2))

pub returns : goal.returns
returns c =
    let a = c.args in
    let two : place_of a.layout 9 + 1 + 1 ≡ place_of a.layout 9 + 2 = omega arith in
    let whole : extent_of a.layout a.bytes.now ≤ length a.bytes.now = rw c.places_of-places.ensures at c.in_ok-count.ensures.2 in
    let x = whole-record a.layout a.logged a.bytes.now c.in_ok-judge_layout.ensures whole 0 (rw (c.fields_of-fields.ensures, c.any_over-over.ensures, c.count-pairs.ensures, c.in_ok-count.ensures.0, c.places_of-places.ensures) at c.in_ok-judge_fields.ensures) in
    let h = after-success a.layout a.logged a.bytes.now a.ordinals.now a.values.now (lists-long a.layout a.logged a.bytes.now a.ordinals.now a.values.now (sym x) (rw (c.in_ok-count.ensures.0, c.places_of-places.ensures) at c.if-ordinals-count.false)) in (
      rw (c.length_with.ensures, c.fields_of-fields.ensures, c.in_ok-count.ensures.0, c.places_of-places.ensures) h.0,
      (rw (c.count-pairs.ensures, c.in_ok-count.ensures.0, c.places_of-places.ensures) at c.take_pairs.ensures.ordinals) ∙ h.1,
      (rw (c.count-pairs.ensures, c.in_ok-count.ensures.0, c.places_of-places.ensures, two) at c.take_pairs.ensures.values) ∙ h.2,
    )
