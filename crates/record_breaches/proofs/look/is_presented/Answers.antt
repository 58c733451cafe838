-- `record_breaches::look::is_presented` meets its contract.
use mathlib.Core.Path.{sym, ap, ◌∙◌}
use borrow.Author.Tests.{eqb-true}
use Rattle.naming.specs.Entries.{entries_in}
use Rattle.naming.specs.Naming.{kind_of}
use Rattle.naming.proofs.Names.{named-inside}
use Rattle.record_breaches.proofs.Looking.{none-presented, right-presented}
use Rattle.record_breaches.proofs.look.is_presented.Goals as goal

pub returns-then-id-eq65535 : goal.returns-then-id-eq65535
returns-then-id-eq65535 c e = none-presented (entries_in c.args.names.now.records) c.args.id c.if-id-eq65535.true

pub is_at-requires : goal.is_at-requires
is_at-requires c = rw c.named_at-named.ensures (named-inside c.args.names.now c.args.id)

pub returns : goal.returns
returns c e =
    let es = entries_in c.args.names.now.records in
    right-presented es c.args.id (ap (kind_of es) (sym c.named_at-named.ensures) ∙ eqb-true _ 5 (sym c.is_at.ensures ∙ e))
