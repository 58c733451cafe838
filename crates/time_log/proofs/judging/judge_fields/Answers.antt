-- `time_log::judging::judge_fields` meets its contract: each field is judged by its size.
use mir.Syntax.{w32}
use mir.ValLaws.{to_z-of_z}
use Rattle.time_log.specs.Refusing.{number_of}
use Rattle.time_log.proofs.Refusals.{by_parts}
use Rattle.time_log.proofs.judging.judge_fields.Goals as goal

pub returns : goal.returns
returns c =
    let f = c.args.fields in
    by_parts f c.args.over (number_of c.judge_parts.result) c.unsigned_abs-north.result c.unsigned_abs-east.result
    (rw (to_z-of_z w32 f.north (record { sfits = c.struct_told-1.given.1.1.0.1 })) at c.unsigned_abs-north.ensures.value)
    (rw (to_z-of_z w32 f.east (record { sfits = c.struct_told-2-1.given.1.1.1.0.1 })) at c.unsigned_abs-east.ensures.value)
    c.judge_parts.ensures
