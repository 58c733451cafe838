-- `views::text` meets its contract.
use native.Mathlib.Omega.{arith}
use Rattle.views.proofs.text.Goals as goal

pub returns : goal.returns
returns c = (cc, omega (arith, c.read_u8-n.type_inv))
