-- `chains::chains` meets its contract: the list has for each number where at least the given number of steps up lead.
use mathlib.Core.Path.{◌≡◌, subst}
use Prim.Native.Nat.{ℕ, ◌+◌, ◌*◌, ◌-◌, ◌≤◌}
use native.Mathlib.Omega.{arith}
use lib.ListN.{length, get_or}
use Rattle.pool.proofs.Starts.{entries-long}
use Rattle.naming.specs.Naming.{parent_of}
use Rattle.naming.specs.Entries.{entries_in}
use Rattle.naming.proofs.Climb.{parent-zero}
use Rattle.naming.proofs.Names.{names-some, names-few}
use Rattle.chains.specs.Steps.{Doubles, Closed}
use Rattle.chains.proofs.Jumping.{climbs-zero, climbs-within, climbed-ends, none_left, closed-ends}
use Rattle.chains.proofs.chains.Goals as goal

pub returns-then-not-parents : goal.returns-then-not-parents
returns-then-not-parents c =
    let records = c.args.names.now.records in
    none_left records.pool.now (entries_in records) 1 c.parents.new.ups c.parents.ensures.0 (c.parents.ensures.1 c.if-not-parents.true)

pub overflow_sub-count : goal.overflow_sub-count
overflow_sub-count c = omega (arith, names-some c.args.names.now, c.requires.0, c.parents.auto.ups)

pub loop-steps-init : goal.loop-steps-init
loop-steps-init c = (omega arith, c.parents.ensures.0)

pub jump-requires : goal.jump-requires
jump-requires c =
    let l = c.loop-steps in
    let records = c.args.names.now.records in
    let p = records.pool.now in
    let es = entries_in records in
    let long : length es ≡ length l.ups - 1 = omega (arith, entries-long p records.starts.now, l.auto.ups, c.requires.0) in
    let few = names-few c.args.names.now in
    let some = names-some c.args.names.now in
    (omega (arith, some, l.auto.ups, c.requires.0), omega (arith, few, l.auto.ups, c.requires.0), climbs-zero p es l.steps l.ups l.invariant.1, rw long at (climbs-within p es l.steps l.ups l.invariant.1))

pub returns-then-not-jump : goal.returns-then-not-jump
returns-then-not-jump c =
    let l = c.loop-steps in
    let records = c.args.names.now.records in
    let p = records.pool.now in
    let es = entries_in records in
    let after = c.jump.new.ups in
    let long : length l.ups - 1 ≡ length es = omega (arith, entries-long p records.starts.now, l.auto.ups, c.requires.0) in
    let more = subst (λ (n : ℕ). Doubles n l.ups after) long c.jump.ensures.0 (parent_of p es) l.steps (parent-zero p es) l.invariant.1 in
    let shut = subst (λ (n : ℕ). Closed n l.ups × ((r : ℕ) → r ≤ n → get_or l.ups r 0 ≡ 0 → get_or after r 0 ≡ 0)) long (c.jump.ensures.1 c.if-not-jump.true) in
    closed-ends p es l.steps l.ups l.invariant.1 shut.0 l.invariant.0 after more shut.1

pub overflow_mul-steps : goal.overflow_mul-steps
overflow_mul-steps c = omega (arith, c.loop-steps-test.true, names-few c.args.names.now, c.requires.0, c.parents.auto.ups)

pub loop-steps-smaller : goal.loop-steps-smaller
loop-steps-smaller c = omega (arith, c.loop-steps-test.true, c.loop-steps.invariant.0)

pub loop-steps-preserved : goal.loop-steps-preserved
loop-steps-preserved c =
    let l = c.loop-steps in
    let records = c.args.names.now.records in
    let p = records.pool.now in
    let es = entries_in records in
    let long : length l.ups - 1 ≡ length es = omega (arith, entries-long p records.starts.now, l.auto.ups, c.requires.0) in
    let twice : l.steps * 2 ≡ l.steps + l.steps = omega arith in
    (omega (arith, l.invariant.0), rw twice (subst (λ (n : ℕ). Doubles n l.ups c.jump.new.ups) long c.jump.ensures.0 (parent_of p es) l.steps (parent-zero p es) l.invariant.1))

pub returns : goal.returns
returns c =
    let l = c.loop-steps in
    let records = c.args.names.now.records in
    climbed-ends records.pool.now (entries_in records) l.steps l.ups l.invariant.1 (omega (arith, entries-long records.pool.now records.starts.now, c.loop-steps-test.false, c.requires.0, c.parents.auto.ups))
