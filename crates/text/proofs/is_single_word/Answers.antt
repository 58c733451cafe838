-- `text::is_single_word` meets its contract.
use mathlib.Core.Path.{ap₂, sym, ◌∙◌}
use Prim.Native.Nat.{ℕ, ◌-◌}
use native.Mathlib.Omega.{arith}
use lib.Bits.{bit_and}
use borrow.Author.Tests.{eqb-true}
use Rattle.wire.specs.Bytes.{number_in}
use Rattle.text.proofs.Words.{single, reaches-8, highs-8}
use Rattle.text.proofs.is_single_word.Goals as goal

pub returns : goal.returns
unfolding number_in
returns c e k h reach =
    let a = c.args in
    let pre = c.requires in
    single 8 a.p.now a.at (a.reach - 7) pre.0 (λ (j : ℕ). (c.type_inv.p j).fits) (omega arith)
    (ap₂ bit_and (ap₂ bit_and (sym c.within.ensures) (reaches-8 a.reach pre.1)) highs-8 ∙ eqb-true _ 0 e) k h (omega arith)
