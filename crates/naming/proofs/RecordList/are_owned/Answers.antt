-- `naming::RecordList::are_owned` meets its contract.
use mathlib.Core.Path.{sym, ap, ◌∙◌}
use mathlib.Core.Bool.{true≢false}
use Prim.Native.Nat.{◌-◌}
use native.Mathlib.Omega.{arith}
use borrow.Author.Tests.{eqb-true}
use lib.ListN.{length}
use Rattle.pool.specs.Walk.{entries_of}
use Rattle.naming.specs.Naming.{kind_of}
use Rattle.naming.specs.Lists.{id_in}
use Rattle.naming.specs.Chained.{Names}
use Rattle.naming.proofs.First.{first-le}
use Rattle.naming.proofs.Owned.{owned}
use Rattle.naming.proofs.RecordList.are_owned.Goals as goal

pub returns-then-not-distinct : goal.returns-then-not-distinct
returns-then-not-distinct c t = absurd (true≢false (sym t))

pub overflow_sub-count : goal.overflow_sub-count
unfolding Names
overflow_sub-count c = c.requires.0.divided.some

pub find-requires : goal.find-requires
unfolding Names
find-requires c =
    let h = c.requires.0 in
    (omega (arith, h.divided.some), omega (arith, h.divided.some, h.room), h.chained)

pub returns-then-find-ne0 : goal.returns-then-find-ne0
returns-then-find-ne0 c t = absurd (true≢false (sym t))

pub find-first-requires : goal.find-first-requires
unfolding Names
find-first-requires c =
    let h = c.requires.0 in
    (omega (arith, h.divided.some), omega (arith, h.divided.some, h.room), h.chained)

pub is_at-requires : goal.is_at-requires
unfolding Names
is_at-requires c =
    let a = c.args in
    let h = c.requires.0 in
    omega (arith, h.divided.some, c.find-first.ensures, first-le (id_in a.self.now.pool.now a.self.now.starts.now) 0 (length a.self.now.starts.now - 1))

pub returns : goal.returns
returns c t =
    let a = c.args in
    let p = a.self.now.pool.now in
    let starts = a.self.now.starts.now in
    owned p starts (c.requires.1 (c.if-not-distinct.false)) (sym c.find.ensures ∙ omega (arith, c.if-find-ne0.false)) (ap (kind_of (entries_of p starts)) (sym c.find-first.ensures) ∙ eqb-true _ _ (sym c.is_at.ensures ∙ t))
