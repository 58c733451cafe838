-- `log_writing::writing::put_fields` meets its contract: one part after the other.
use Rattle.std.proofs.Common.{arith}
use mir.Syntax.{w32}
use mir.ValLaws.{to_z-of_z}
use Rattle.time_log.proofs.Parts.{place-large}
use Rattle.log_writing.proofs.Laying.{head-laid, next-laid}
use Rattle.log_writing.proofs.writing.put_fields.Goals as goal

pub put-requires : goal.put-requires
put-requires c = omega (arith, place-large c.args.places.now.layout 9, c.requires)

pub put-requires-2 : goal.put-requires-2
put-requires-2 c = omega (arith, place-large c.args.places.now.layout 9, c.requires, c.put.auto.d)

pub returns : goal.returns
returns c =
    let a = c.args in
    next-laid a.to.now _ _ a.places.now.layout a.fields 8 (next-laid a.to.now _ _ a.places.now.layout a.fields 7 (next-laid a.to.now _ _ a.places.now.layout a.fields 6 (next-laid a.to.now _ _ a.places.now.layout a.fields 5 (next-laid a.to.now _ _ a.places.now.layout a.fields 4 (next-laid a.to.now _ _ a.places.now.layout a.fields 3 (next-laid a.to.now _ _ a.places.now.layout a.fields 2 (next-laid a.to.now _ _ a.places.now.layout a.fields 1 (next-laid a.to.now _ _ a.places.now.layout a.fields 0 (head-laid a.to.now _ _ a.places.now.layout a.fields c.put.ensures c.put-2.ensures) (rw (c.bits.ensures, to_z-of_z w32 a.fields.north (record { sfits = c.struct_told-1.given.1.1.0.1 })) at c.put_part.ensures)) (rw (c.bits-2.ensures, to_z-of_z w32 a.fields.east (record { sfits = c.struct_told-1.given.1.1.1.0.1 })) at c.put_part-2.ensures)) (rw (c.bits-3.ensures, to_z-of_z w32 a.fields.up (record { sfits = c.struct_told-1.given.1.1.1.1.0.1 })) at c.put_part-3.ensures)) c.put_part-4.ensures) c.put_part-5.ensures) c.put_part-6.ensures) c.put_part-7.ensures) c.put_part-8.ensures) c.put_part-9.ensures
