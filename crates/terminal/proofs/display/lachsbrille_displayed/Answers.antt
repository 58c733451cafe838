-- `terminal::display::lachsbrille_displayed` meets its contract: only whether the decimals are in range matters.
use mathlib.Core.Path.{◌≡◌, ◌∙◌}
use Prim.Native.Nat.{ℕ}
use lib.Dec.{leb}
use lib.IntN.{ℤ}
use lib.Ieee.{Float}
use mir.Syntax.{w32}
use mir.ValLaws.{to_z-of_z}
use Rattle.presentation.specs.Display.{answer_of, shown_of, Shown}
use Rattle.terminal.specs.Display.{presented}
use Rattle.terminal.proofs.display.lachsbrille_displayed.Goals as goal

-- of the decimals it is asked only whether they are in range
same_answer : (v offset : ℤ) (scale : Float) (m n : ℕ) → leb m 7 ≡ leb n 7 → shown_of v (presented offset scale m) ≡ shown_of v (presented offset scale n)
unfolding shown_of
same_answer v offset scale m n e = rw e

pub returns : goal.returns
returns c =
    let a = c.args in
    let e = rw (to_z-of_z w32 a.value c.ranges.value, to_z-of_z w32 a.offset c.ranges.offset) at c.display-displayed.ensures in
    let m = c.decimals_in.result in
    let r : record { number = c.number_of.result; value = c.value_of.result } ≡ answer_of c.display-displayed.result = rw (c.number_of.ensures, c.value_of.ensures) in
    let s : Shown a.value (presented a.offset a.scale m) (answer_of c.display-displayed.result) = e in
    rw r
    (record { answer = s.answer ∙ same_answer a.value a.offset a.scale m a.decimals c.decimals_in.ensures; bits = s.bits })
