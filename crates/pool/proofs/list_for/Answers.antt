-- `pool::list_for` meets its contract.
use mathlib.Core.Path.{◌≡◌, sym, ap, ◌∙◌}
use Prim.Native.Nat.{◌<◌}
use native.Mathlib.Omega.{arith}
use borrow.Author.Tests.{lt-ltb, le-ltb, eqb-true, eqb-false}
use lib.ListN.{length}
use Rattle.std.proofs.lemmas.Result.{err_from_is_err_and}
use Rattle.pool.specs.Answer.{Answer}
use Rattle.pool.proofs.Judged.{read-empty, read-long, walk-read, walk-refused, unlisted, listed}
use Rattle.pool.proofs.list_for.Goals as goal

pub returns-then-is_empty : goal.returns-then-is_empty
returns-then-is_empty c =
    let e = read-empty c.args.p.now c.args.room (eqb-true _ 0 (sym c.if-is_empty.ensures)) in
    (sym e, unlisted c.args.p.now c.args.room _ (λ z. let n : 1 ≡ 0 = sym (ap (λ (a : Answer). a.number) e) ∙ z in omega arith))

pub returns-then-p-gt65535 : goal.returns-then-p-gt65535
returns-then-p-gt65535 c =
    let e = read-long c.args.p.now c.args.room c.if-p-gt65535.true in
    (sym e, unlisted c.args.p.now c.args.room _ (λ z. let n : 2 ≡ 0 = sym (ap (λ (a : Answer). a.number) e) ∙ z in omega arith))

pub returns-in_err-count : goal.returns-in_err-count
returns-in_err-count c =
    let a = c.args in
    let s : 0 < length a.p.now = omega (arith, eqb-false _ 0 (sym c.if-is_empty.ensures)) in
    let e = err_from_is_err_and c.from_residual.result c.from_residual.ensures.1 in
    rw (e.1, e.2) (walk-refused a.p.now a.room _ s c.if-p-gt65535.false c.in_err-count.ensures.0, listed a.p.now a.room _ c.in_err-count.ensures.1)

pub returns-then-count-gt8192 : goal.returns-then-count-gt8192
returns-then-count-gt8192 c =
    let a = c.args in
    let s : 0 < length a.p.now = omega (arith, eqb-false _ 0 (sym c.if-is_empty.ensures)) in
    (sym (walk-read a.p.now a.room _ s c.if-p-gt65535.false c.in_ok-count.ensures.0 ∙ rw (lt-ltb 8192 _ c.if-count-gt8192.true)), listed a.p.now a.room _ c.in_ok-count.ensures.1)

pub returns-then-room-count : goal.returns-then-room-count
returns-then-room-count c =
    let a = c.args in
    let s : 0 < length a.p.now = omega (arith, eqb-false _ 0 (sym c.if-is_empty.ensures)) in
    (sym (walk-read a.p.now a.room _ s c.if-p-gt65535.false c.in_ok-count.ensures.0 ∙ rw (le-ltb 8192 _ c.if-count-gt8192.false, lt-ltb a.room _ c.if-room-count.true)), listed a.p.now a.room _ c.in_ok-count.ensures.1)

pub returns : goal.returns
returns c =
    let a = c.args in
    let s : 0 < length a.p.now = omega (arith, eqb-false _ 0 (sym c.if-is_empty.ensures)) in
    (sym (walk-read a.p.now a.room _ s c.if-p-gt65535.false c.in_ok-count.ensures.0 ∙ rw (le-ltb 8192 _ c.if-count-gt8192.false, le-ltb a.room _ c.if-room-count.false)), listed a.p.now a.room _ c.in_ok-count.ensures.1)
