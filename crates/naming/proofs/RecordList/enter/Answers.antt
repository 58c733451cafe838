-- `naming::RecordList::enter` meets its contract.
use native.Mathlib.Omega.{arith}
use lib.ListN.{length}
use Rattle.pool.proofs.Starts.{starts-few}
use Rattle.naming.specs.Lists.{id_in}
use Rattle.naming.proofs.Chained.{slot_lt, opens-shut, opens-new, entered-again, entered-first}
use Rattle.naming.proofs.RecordList.enter.Goals as goal

pub returns-then-first-ne0 : goal.returns-then-first-ne0
returns-then-first-ne0 c =
    let a = c.args in
    (opens-shut (id_in a.self.now.pool.now a.self.now.starts.now) a.i a.heads.now a.next.now c.requires.2 (omega (arith, c.requires.0, c.requires.1)) c.id_at-id.result c.find-first.result c.id_at-id.ensures c.find-first.ensures c.if-first-ne0.true, entered-again (id_in a.self.now.pool.now a.self.now.starts.now) a.i a.heads.now a.next.now c.requires.2 (omega (arith, c.requires.0, c.requires.1)) c.id_at-id.result c.find-first.result c.id_at-id.ensures c.find-first.ensures c.if-first-ne0.true)

pub offset_bounds-heads-head : goal.offset_bounds-heads-head
offset_bounds-heads-head c = omega (arith, c.slot_of-head.ensures, slot_lt (length c.args.heads.now) c.id_at-id.result c.requires.2.some, c.well_formed)

pub bounds-heads-head : goal.bounds-heads-head
bounds-heads-head c = omega (arith, c.slot_of-head.ensures, slot_lt (length c.args.heads.now) c.id_at-id.result c.requires.2.some)

pub overflow_cast-heads : goal.overflow_cast-heads
overflow_cast-heads c = omega (arith, starts-few c.args.self.now.pool.now c.args.self.now.starts.now c.args.self.now.divided, c.requires.0)

pub offset_bounds-heads-head-2 : goal.offset_bounds-heads-head-2
offset_bounds-heads-head-2 c = omega (arith, c.slot_of-head.ensures, slot_lt (length c.args.heads.now) c.id_at-id.result c.requires.2.some, c.well_formed)

pub bounds-heads-head-2 : goal.bounds-heads-head-2
bounds-heads-head-2 c = omega (arith, c.slot_of-head.ensures, slot_lt (length c.args.heads.now) c.id_at-id.result c.requires.2.some)

pub returns : goal.returns
returns c =
    let a = c.args in
    rw c.slot_of-head.ensures
    (opens-new (id_in a.self.now.pool.now a.self.now.starts.now) a.i a.heads.now a.next.now c.requires.2 (omega (arith, c.requires.0, c.requires.1)) c.id_at-id.result c.find-first.result c.id_at-id.ensures c.find-first.ensures c.if-first-ne0.false, entered-first (id_in a.self.now.pool.now a.self.now.starts.now) a.i a.heads.now a.next.now c.requires.2 (omega (arith, c.requires.0, c.requires.1)) c.id_at-id.result c.find-first.result c.id_at-id.ensures c.find-first.ensures c.if-first-ne0.false)
