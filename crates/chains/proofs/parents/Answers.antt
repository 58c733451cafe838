-- `chains::parents` meets its contract: for the records with numbers below r the steps are stored.
use mathlib.Core.Path.{sym, subst}
use mathlib.Core.Bool.{not, ◌||◌}
use Prim.Native.Nat.{ℕ, ◌+◌, ◌≤◌, ◌<◌}
use native.Mathlib.Omega.{arith}
use lib.Dec.{eqb}
use lib.ListN.{length, set}
use Rattle.naming.specs.Entries.{entries_in}
use Rattle.pool.proofs.Starts.{entries-long}
use Rattle.naming.specs.Naming.{parent_of}
use Rattle.naming.proofs.Climb.{parent-zero}
use Rattle.naming.proofs.Names.{names-few}
use Rattle.chains.proofs.Jumping.{Rising, rise-start, rise-once, rise-on}
use Rattle.chains.proofs.parents.Goals as goal
use Rattle.chains.proofs.parents.Goals.{then-up-r, else-up-r}

pub loop-r-init : goal.loop-r-init
loop-r-init c =
    let a = c.args in
    let es = entries_in a.names.now.records in
    rise-start (parent_of a.names.now.records.pool.now es) a.ups.now (parent-zero a.names.now.records.pool.now es) (c.requires.1 0)

pub overflow_cast-r : goal.overflow_cast-r
overflow_cast-r c =
    let a = c.args in
    omega (arith, names-few a.names.now, c.loop-r-test.true)

pub bounds-ups-up : goal.bounds-ups-up
bounds-ups-up c = omega (arith, c.if-up-r.true, c.loop-r.auto.ups, c.loop-r-test.true, c.requires.0)

pub offset_bounds-ups-r : goal.offset_bounds-ups-r
offset_bounds-ups-r c =
    let a = c.args in
    omega (arith, names-few a.names.now, c.loop-r-test.true)

pub bounds-ups-r : goal.bounds-ups-r
bounds-ups-r c = omega (arith, c.loop-r.auto.ups, c.loop-r-test.true, c.requires.0)

pub loop-r-preserved : goal.loop-r-preserved
loop-r-preserved c =
    let a = c.args in
    let l = c.loop-r in
    let f = parent_of a.names.now.records.pool.now (entries_in a.names.now.records) in
    let parent = c.parent_at-up.ensures in
    let room : l.r < length l.ups = omega (arith, l.auto.ups, c.loop-r-test.true, c.requires.0) in
    elim c.if-up-r.branch [
      | then-up-r w ↦ subst (λ (v : ℕ). Rising f (l.r + 1) (set l.ups l.r v) (l.left || not (eqb v 0))) (sym w.up-is) (rise-on f l.r l.ups l.left room l.invariant c.parent_at-up.result parent w.if-up-r.true)
      | else-up-r w ↦ subst (λ (v : ℕ). Rising f (l.r + 1) (set l.ups l.r v) (l.left || not (eqb v 0))) (sym w.up-is) (rise-once f l.r l.ups l.left room l.invariant c.parent_at-up.result parent)
    ]

pub returns : goal.returns
returns c =
    let a = c.args in
    let l = c.loop-r in
    let es = entries_in a.names.now.records in
    let past : (q : ℕ) → q ≤ length es → q < l.r = λ (q : ℕ) (b : q ≤ length es). omega (arith, c.loop-r-test.false, l.auto.ups, c.requires.0, entries-long a.names.now.records.pool.now a.names.now.records.starts.now) in
    (λ q b. l.invariant.climbs q (past q b), λ t q b. l.invariant.zeros t q (past q b))
