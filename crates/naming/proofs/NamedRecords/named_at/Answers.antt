-- `naming::NamedRecords::named_at` meets its contract.
use mathlib.Core.Path.{◌∙◌}
use native.Mathlib.Omega.{arith}
use Rattle.naming.specs.Chained.{Names}
use Rattle.naming.proofs.Starts.{named-null, named-read}
use Rattle.naming.proofs.NamedRecords.named_at.Goals as goal

pub returns-then-id-eq65535 : goal.returns-then-id-eq65535
returns-then-id-eq65535 c = let a = c.args in named-null a.self.now.records.pool.now a.self.now.records.starts.now a.id c.if-id-eq65535.true

pub overflow_sub-records : goal.overflow_sub-records
unfolding Names
overflow_sub-records c = c.args.self.now.linked.divided.some

pub find-requires : goal.find-requires
unfolding Names
find-requires c =
    let h = c.args.self.now.linked in
    (omega (arith, h.divided.some), omega (arith, h.divided.some, h.room), h.chained)

pub returns : goal.returns
returns c = let a = c.args in c.find.ensures ∙ named-read a.self.now.records.pool.now a.self.now.records.starts.now a.id c.if-id-eq65535.false
