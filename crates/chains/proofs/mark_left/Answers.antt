-- `chains::mark_left` meets its contract: among the numbers passed so far exactly these are marked.
use mathlib.Core.Path.{sym, ap, subst}
use mathlib.Core.Bool.{not}
use mathlib.Core.List.{List}
use Prim.Native.Nat.{ℕ, ◌+◌}
use native.Mathlib.Omega.{arith}
use borrow.Author.Tests.{eq-eqb, ne_eqb}
use Rattle.chains.specs.Noted.{HitsMarked}
use Rattle.chains.proofs.Noting.{marked_start, marked-pass, marked-hit, marked-is}
use Rattle.chains.proofs.mark_left.Invariants.{leaves}
use Rattle.chains.proofs.mark_left.Goals as goal
use Rattle.chains.proofs.mark_left.Goals.{then-is_left, else-is_left}

pub loop-i-init : goal.loop-i-init
loop-i-init c = marked_start (leaves c.args.left.now) c.args.marks.now c.requires.0

pub mark-requires : goal.mark-requires
mark-requires c = omega (arith, c.loop-i-test.true, c.requires.1, c.loop-i.auto.marks)

pub loop-i-preserved : goal.loop-i-preserved
loop-i-preserved c =
    let left = c.args.left.now in
    let l = c.loop-i in
    let Next : List ℕ → Type 0 = λ (m : List ℕ). HitsMarked (leaves left) (l.i + 1) m in
    elim c.if-is_left.branch [
      | then-is_left w ↦ subst Next (sym w.marks-is) (marked-hit (leaves left) l.i l.marks l.invariant (ap not (ne_eqb _ 0 w.if-is_left.true)) w.mark.new.marks w.mark.ensures.0 w.mark.ensures.1)
      | else-is_left w ↦ subst Next (sym w.marks-is) (marked-pass (leaves left) l.i l.marks l.invariant (ap not (eq-eqb _ 0 w.if-is_left.false)))
    ]

pub returns : goal.returns
returns c i b =
    let l = c.loop-i in
    marked-is (leaves c.args.left.now) l.i l.marks l.invariant i (omega (arith, b, c.loop-i-test.false)) (omega (arith, b, c.requires.1, l.auto.marks))
