-- `presentation::display` meets its contract: the casts lose nothing, so that the product is of exact factors.
use mathlib.Core.Path.{◌≡◌, sym, ◌∙◌}
use mathlib.Core.Bool.{true}
use native.Mathlib.Omega.{arith}
use lib.Dec.{T}
use lib.IntN.{◌+ℤ◌}
use lib.Ieee.{fits, binary32, binary64, of_int}
use lib.Ieee.Fits.{and_i}
use mir.Syntax.{w32}
use mir.Val.{SFits}
use mir.ValLaws.{to_z-of_z}
use borrow.Author.Rules.{rules}
use borrow.Author.Tests.{lt-leb, le-leb}
use Rattle.presentation.specs.Display.{in_range, shown_of}
use Rattle.presentation.proofs.Sums.{sum-small}
use Rattle.presentation.proofs.Range.{a-number, from-least, to-greatest}
use Rattle.presentation.proofs.Product.{product-bits}
use Rattle.presentation.proofs.display.Goals as goal

pub returns-then-not-is_in_range : goal.returns-then-not-is_in_range
unfolding shown_of
returns-then-not-is_in_range c = record { answer = rw (sym c.is_in_range.ensures ∙ c.if-not-is_in_range.true); bits = λ z. absurd (omega (arith, z)) }

pub returns-then-decimals-gt7 : goal.returns-then-decimals-gt7
unfolding shown_of
returns-then-decimals-gt7 c =
    record { answer = rw (sym c.is_in_range.ensures ∙ c.if-not-is_in_range.false, lt-leb _ _ c.if-decimals-gt7.true); bits = λ z. absurd (omega (arith, z)) }

pub float_to_float-factor : goal.float_to_float-factor
float_to_float-factor c =
    and_i (fits binary64 c.args.presentation.scale) _ (search rules)
    (a-number _ (sym c.is_in_range.ensures ∙ c.if-not-is_in_range.false))

pub returns : goal.returns
unfolding shown_of
returns c =
    let start = c in
    let value = start.args.value in
    let offset = start.args.presentation.offset in
    let x = start.args.presentation.scale in
    let offset-fits : SFits w32 offset = search rules in
    let scale-fits : T (fits binary32 x) = search rules in
    let ok : in_range x ≡ true = sym c.is_in_range.ensures ∙ c.if-not-is_in_range.false in
    let sum : c.exact_sum-sum.result ≡ of_int binary64 (value +ℤ offset) =
    c.exact_sum-sum.ensures ∙ simp (to_z-of_z w32 value start.ranges.value, to_z-of_z w32 offset offset-fits) in
    record {
      answer = rw (ok, le-leb _ _ c.if-decimals-gt7.false, sum);
      bits = λ z. rw sum (product-bits (value +ℤ offset) x (sum-small value offset start.ranges.value offset-fits) scale-fits (from-least x ok) (to-greatest x ok));
    }
