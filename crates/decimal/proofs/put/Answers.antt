-- `decimal::put` meets its contract.
use mathlib.Core.Path.{◌≡◌, ◌∙◌}
use lib.ListN.{take}
use Rattle.decimal.specs.Digits.{digits}
use Rattle.decimal.proofs.Digits.{spelt}
use Rattle.decimal.proofs.put.Goals as goal

pub returns : goal.returns
returns c =
    let d = c.decimal-k in
    let text : take d.result d.new.out ≡ digits c.args.n = d.ensures.digits ∙ spelt d.result c.args.n d.ensures.len in
    (rw text at c.put_bytes.ensures.0, rw text at c.put_bytes.ensures.1)
