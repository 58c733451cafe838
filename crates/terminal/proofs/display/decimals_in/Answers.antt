-- `terminal::display::decimals_in` meets its contract: 255, which replaces every greater number, is out of range too.
use mathlib.Core.Path.{sym}
use native.Mathlib.Omega.{arith}
use borrow.Author.Tests.{lt-leb}
use Rattle.terminal.proofs.display.decimals_in.Goals as goal

pub returns-then-decimals-gt255 : goal.returns-then-decimals-gt255
returns-then-decimals-gt255 c = sym (lt-leb c.args.decimals 7 (omega (arith, c.if-decimals-gt255.true)))
