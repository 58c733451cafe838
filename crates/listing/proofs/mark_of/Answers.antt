-- `listing::mark_of` meets its contract.
use mathlib.Core.Path.{sym, ap}
use native.Mathlib.Omega.{arith}
use Rattle.records.specs.Layout.{mark}
use Rattle.listing.specs.Lines.{letters}
use Rattle.listing.proofs.Adding.{no-mark}
use Rattle.listing.proofs.mark_of.Goals as goal

pub returns-in-1 : goal.returns-in-1
unfolding letters mark
returns-in-1 c = (sym (ap letters c.in-1.is), omega arith)

pub returns-in-2 : goal.returns-in-2
unfolding letters mark
returns-in-2 c = (sym (ap letters c.in-2.is), omega arith)

pub returns-in-3 : goal.returns-in-3
unfolding letters mark
returns-in-3 c = (sym (ap letters c.in-3.is), omega arith)

pub returns-in-4 : goal.returns-in-4
unfolding letters mark
returns-in-4 c = (sym (ap letters c.in-4.is), omega arith)

pub returns-in-5 : goal.returns-in-5
unfolding letters mark
returns-in-5 c = (sym (ap letters c.in-5.is), omega arith)

pub returns-in_default : goal.returns-in_default
returns-in_default c =
    (sym (no-mark c.args.kind (λ e. omega arith) (λ e. omega arith) (λ e. omega arith) (λ e. omega arith) (λ e. omega arith)), omega arith)
