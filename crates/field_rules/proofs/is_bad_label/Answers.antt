-- `field_rules::is_bad_label` meets its contract.
use borrow.Author.Tests.{lt-ltb, le-ltb}
use native.Mathlib.Omega.{arith}
use Rattle.field_rules.proofs.is_bad_label.Goals as goal

pub returns-then-j-lt13 : goal.returns-then-j-lt13
returns-then-j-lt13 c = rw (lt-ltb c.args.j 13 c.if-j-lt13.true, c.read_u8-byte.ensures)

pub returns : goal.returns
returns c = rw (le-ltb c.args.j 13 (omega (arith, c.if-j-lt13.false)), c.read_u8-byte.ensures)
