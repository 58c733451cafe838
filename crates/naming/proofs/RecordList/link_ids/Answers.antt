-- `naming::RecordList::link_ids` meets its contract: after i records the lists are right for those.
use mathlib.Core.Path.{◌≡◌, sym, ◌∙◌}
use mathlib.Core.Bool.{true, true≢false}
use mathlib.Core.Logic.{⊎_elim}
use Prim.Native.Nat.{ℕ, ◌+◌, ◌-◌, ◌<◌}
use native.Mathlib.Nat.{eq-or-lt_of_le, not-suc-le-zero}
use native.Mathlib.Omega.{arith}
use lib.ListN.{length}
use Rattle.naming.specs.Lists.{id_in}
use Rattle.naming.specs.Chained.{opens, Names}
use Rattle.naming.proofs.Chained.{chained-none}
use Rattle.naming.proofs.RecordList.link_ids.Invariants.{Opened}
use Rattle.naming.proofs.RecordList.link_ids.Goals as goal
use Rattle.naming.proofs.RecordList.link_ids.Goals.{then-not-enter, else-not-enter}

opened-more : (key : ℕ → ℕ) (i : ℕ) → Opened key i → opens key i ≡ true → Opened key (i + 1)
opened-more key i before o j l = ⊎_elim (λ (s : j ≡ i). rw s o) (λ (s : j < i). before j s) (eq-or-lt_of_le (omega arith))

pub overflow_sub-count : goal.overflow_sub-count
overflow_sub-count c = omega (arith, c.args.self.now.divided.some)

pub loop-i-init : goal.loop-i-init
loop-i-init c =
    let a = c.args in
    (chained-none (id_in a.self.now.pool.now a.self.now.starts.now) a.heads.now a.next.now c.requires.1 c.requires.2, λ t j l. absurd (not-suc-le-zero l))

pub enter-requires : goal.enter-requires
enter-requires c =
    (omega (arith, c.loop-i-test.true), omega (arith, c.loop-i.auto.next, c.requires.0), c.loop-i.invariant.0)

pub loop-i-preserved : goal.loop-i-preserved
loop-i-preserved c =
    let l = c.loop-i in
    let a = c.args in (
      c.enter.ensures.1,
      elim c.if-not-enter.branch [
        | then-not-enter w ↦ λ t. absurd (true≢false (sym t ∙ w.distinct-is))
        | else-not-enter w ↦ λ t. opened-more (id_in a.self.now.pool.now a.self.now.starts.now) l.i (l.invariant.1 (sym w.distinct-is ∙ t)) (sym c.enter.ensures.0 ∙ w.if-not-enter.false)
      ],
    )

pub returns : goal.returns
unfolding Names
returns c =
    let a = c.args in
    let l = c.loop-i in
    let end : l.i ≡ length a.self.now.starts.now - 1 = omega (arith, c.loop-i-test.false, l.auto.i-end) in
    (record { divided = c.args.self.now.divided; room = omega (arith, c.requires.0, l.auto.next); chained = rw end at l.invariant.0 }, λ t. rw end at (l.invariant.1 t))
