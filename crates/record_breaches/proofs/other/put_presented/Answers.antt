-- `record_breaches::other::put_presented` meets its contract.
use Rattle.records.specs.Layout.{mark_code}
use Rattle.naming.specs.Entries.{entries_in}
use Rattle.naming.proofs.Names.{named-inside}
use Rattle.record_breaches.proofs.Rows.{presented}
use Rattle.record_breaches.proofs.other.put_presented.Goals as goal

pub kind_at-kind-requires : goal.kind_at-kind-requires
kind_at-kind-requires c = rw c.named_at-named.ensures (named-inside c.args.names.now c.args.id)

pub returns : goal.returns
returns c = presented (entries_in c.args.names.now.records) c.args.id c.named_at-named.result (mark_code c.kind_at-kind.result) c.named_at-named.ensures c.kind_at-kind.ensures c.put_presentation.ensures
