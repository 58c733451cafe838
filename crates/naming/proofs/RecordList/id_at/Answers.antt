-- `naming::RecordList::id_at` meets its contract: the record lies in the pool.
use native.Mathlib.Omega.{arith}
use borrow.Author.Rules.{rules}
use Rattle.records.specs.Places.{id_of}
use Rattle.pool.proofs.Starts.{starts-within}
use Rattle.naming.specs.Lists.{id_in}
use Rattle.naming.proofs.RecordList.id_at.Goals as goal

pub overflow_add-self : goal.overflow_add-self
overflow_add-self c =
    let s = c in
    omega (arith, starts-within s.args.self.now.pool.now s.args.self.now.starts.now s.args.self.now.divided s.args.i (omega (arith, s.requires)), s.args.self.now.divided.short)

pub within-requires : goal.within-requires
within-requires c =
    let s = c in
    omega (arith, starts-within s.args.self.now.pool.now s.args.self.now.starts.now s.args.self.now.divided s.args.i (omega (arith, s.requires)))

pub returns : goal.returns
unfolding id_in id_of
returns c = search rules
