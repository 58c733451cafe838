-- `chains::mark_numbers` meets its contract: the element numbers of the records passed so far are marked, and those of these records that repeat one.
use mathlib.Core.Path.{◌≡◌, sym, ◌∙◌, subst}
use mathlib.Core.List.{List}
use Prim.Native.Nat.{ℕ, ◌+◌}
use native.Mathlib.Omega.{arith}
use borrow.Author.Tests.{eq-eqb}
use lib.ListN.{length}
use Rattle.naming.specs.Entries.{entries_in}
use Rattle.naming.specs.Records.{kind_at}
use Rattle.rules.specs.Table.{element_key}
use Rattle.chains.specs.Noted.{HitsMarked}
use Rattle.chains.proofs.Noting.{noted-start, marked_start, marked-pass, marked-hit, marked-is}
use Rattle.chains.proofs.mark_numbers.Invariants.{repeated}
use Rattle.chains.proofs.mark_numbers.Goals as goal
use Rattle.chains.proofs.mark_numbers.Goals.{then-repeats_number, else-repeats_number}

pub overflow_sub-i-end : goal.overflow_sub-i-end
overflow_sub-i-end c = c.args.records.now.divided.some

pub loop-i-init : goal.loop-i-init
loop-i-init c =
    let a = c.args in
    let es = entries_in a.records.now in
    (noted-start 65536 (element_key a.records.now.pool.now es) a.numbers.now c.requires.1, marked_start (repeated a.records.now.pool.now es) a.marks.now c.requires.2)

pub repeats_number-requires : goal.repeats_number-requires
repeats_number-requires c = (omega (arith, c.loop-i-test.true, c.args.records.now.divided.some), omega (arith, c.requires.0, c.loop-i.auto.numbers), c.loop-i.invariant.0)

pub mark-requires : goal.mark-requires
mark-requires c = omega (arith, c.loop-i-test.true, c.requires.3, c.loop-i.auto.marks)

pub loop-i-preserved : goal.loop-i-preserved
loop-i-preserved c =
    let a = c.args in
    let l = c.loop-i in
    let es = entries_in a.records.now in
    let told = c.repeats_number.ensures in
    let Next : List ℕ → Type 0 = λ (m : List ℕ). (length m ≡ length a.marks.now) × HitsMarked (repeated a.records.now.pool.now es) (l.i + 1) m in
    let on : Next c.if-repeats_number.marks =
    elim c.if-repeats_number.branch [
      | then-repeats_number w ↦ subst Next (sym w.marks-is) (w.mark.ensures.0 ∙ l.auto.marks, marked-hit (repeated a.records.now.pool.now es) l.i l.marks l.invariant.1 (sym told.0 ∙ w.if-repeats_number.true) w.mark.new.marks w.mark.ensures.0 w.mark.ensures.1)
      | else-repeats_number w ↦ subst Next (sym w.marks-is) (l.auto.marks, marked-pass (repeated a.records.now.pool.now es) l.i l.marks l.invariant.1 (sym told.0 ∙ w.if-repeats_number.false))
    ] in
    (told.1, on.1)

pub returns : goal.returns
returns c i l own =
    let a = c.args in
    let w = c.loop-i in
    let es = entries_in a.records.now in
    marked-is (repeated a.records.now.pool.now es) w.i w.marks w.invariant.1 i (omega (arith, c.loop-i-test.false)) (omega (arith, c.requires.3, w.auto.marks)) ∙ rw (eq-eqb (kind_at es i) 2 own)
