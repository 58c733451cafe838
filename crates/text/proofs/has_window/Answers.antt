-- `text::has_window` meets its contract.
use mathlib.Core.Bool.{false≢true}
use Prim.Native.Nat.{◌-◌}
use native.Mathlib.Omega.{arith}
use borrow.Author.Tests.{leb-true}
use Rattle.text.proofs.has_window.Goals as goal

pub returns-then-to-from : goal.returns-then-to-from
returns-then-to-from c t = absurd (false≢true t)

pub returns-then-to-from-gt32 : goal.returns-then-to-from-gt32
returns-then-to-from-gt32 c t = absurd (false≢true t)

pub returns-then-len-from : goal.returns-then-len-from
returns-then-len-from c t = absurd (false≢true t)

pub returns : goal.returns
returns c t = (omega (arith, c.if-to-from.false), omega (arith, c.if-to-from-gt32.false), omega (arith, c.if-len-from.false, leb-true 32 (c.args.len - c.args.from) t))
