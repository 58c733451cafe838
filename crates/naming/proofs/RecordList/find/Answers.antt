-- `naming::RecordList::find` meets its contract: the walk is at 0 or at a record of the ID's slot, and the first record with the ID does
use mathlib.Core.Path.{◌≡◌, sym, ◌∙◌}
use Prim.Native.Nat.{suc, ◌-◌}
use native.Mathlib.Omega.{arith}
use lib.ListN.{length}
use Rattle.naming.specs.Lists.{id_in}
use Rattle.naming.proofs.Chained.{slot_lt, walk_begins, walk-goes, walk-falls, walks-found, walks-out}
use Rattle.naming.proofs.RecordList.find.Goals as goal

pub slot_of-head-requires : goal.slot_of-head-requires
slot_of-head-requires c = c.requires.2.some

pub offset_bounds-heads-head : goal.offset_bounds-heads-head
offset_bounds-heads-head c = omega (arith, c.slot_of-head.ensures, slot_lt (length c.args.heads.now) c.args.id c.requires.2.some, c.well_formed)

pub bounds-heads-head : goal.bounds-heads-head
bounds-heads-head c = omega (arith, c.slot_of-head.ensures, slot_lt (length c.args.heads.now) c.args.id c.requires.2.some)

pub loop-r-init : goal.loop-r-init
loop-r-init c =
    rw c.slot_of-head.ensures
    (walk_begins (id_in c.args.self.now.pool.now c.args.self.now.starts.now) c.args.count c.args.heads.now c.args.next.now c.requires.2 c.args.id)

pub overflow_cast-at : goal.overflow_cast-at
overflow_cast-at c = omega (arith, c.loop-r.invariant.inside)

pub overflow_sub-at : goal.overflow_sub-at
overflow_sub-at c = omega (arith, c.loop-r-test.true)

pub id_at-requires : goal.id_at-requires
id_at-requires c = omega (arith, c.loop-r.invariant.inside, c.loop-r-test.true, c.requires.0)

pub returns-then-id_at-id : goal.returns-then-id_at-id
returns-then-id_at-id c =
    let l = c.loop-r in
    let here : l.r ≡ suc (l.r - 1) = omega (arith, c.loop-r-test.true) in
    walks-found (id_in c.args.self.now.pool.now c.args.self.now.starts.now) c.args.count (length c.args.heads.now) c.args.id l.r (l.r - 1) here l.invariant (sym c.id_at.ensures ∙ c.if-id_at-id.true)

pub offset_bounds-next-at : goal.offset_bounds-next-at
offset_bounds-next-at c = omega (arith, c.loop-r.invariant.inside, c.requires.1)

pub bounds-next-at : goal.bounds-next-at
bounds-next-at c = omega (arith, c.loop-r.invariant.inside, c.requires.1)

pub loop-r-smaller : goal.loop-r-smaller
loop-r-smaller c =
    let l = c.loop-r in
    let here : l.r ≡ suc (l.r - 1) = omega (arith, c.loop-r-test.true) in
    walk-falls (id_in c.args.self.now.pool.now c.args.self.now.starts.now) c.args.count c.args.heads.now c.args.next.now c.requires.2 c.args.id l.r (l.r - 1) here l.invariant

pub loop-r-preserved : goal.loop-r-preserved
loop-r-preserved c =
    let l = c.loop-r in
    let here : l.r ≡ suc (l.r - 1) = omega (arith, c.loop-r-test.true) in
    walk-goes (id_in c.args.self.now.pool.now c.args.self.now.starts.now) c.args.count c.args.heads.now c.args.next.now c.requires.2 c.args.id l.r (l.r - 1) here l.invariant (λ e. c.if-id_at-id.false (c.id_at.ensures ∙ e))

pub returns : goal.returns
returns c =
    let l = c.loop-r in
    walks-out (id_in c.args.self.now.pool.now c.args.self.now.starts.now) c.args.count (length c.args.heads.now) c.args.id l.r c.loop-r-test.false l.invariant
