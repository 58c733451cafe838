-- 50 is given exactly if the bits of the scale or the decimals break rule 5. Assumes nothing.
use Prim.Native.Nat.{ℕ, ◌%◌, ◌*◌, ◌^◌, ◌≤◌, ◌<◌}
use mathlib.Core.Path.{◌≡◌, refl, sym, subst, ◌∙◌}
use mathlib.Core.Bool.{Bool, true, false, cond, not, ◌&&◌, true≢false}
use mathlib.Core.Logic.{◌⊎◌, inl, inr}
use native.Mathlib.Omega.{arith}
use borrow.Author.Tests.{leb-true, leb-false, le-leb, ltb-true}
use lib.Dec.{T, leb}
use lib.Ieee.{Float, binary32, binary64, is_nan, of_bits, to_bits, hid, ones, top}
use lib.Ieee.Bits.{to_bits-of_bits, nan_bits_is, nan_bits_above}
use Rattle.presentation.specs.Display.{Answer, in_range, shown_of}
use Rattle.presentation.specs.Fixed.{FiftyIsRuleFive}

abbrev Within : ℕ → Type 0
Within b = (0x322BCC77 ≤ b) × (b ≤ 0x4CBEBC20)

within-test : (b : ℕ) → ((leb 0x322BCC77 b && leb b 0x4CBEBC20) ≡ true → Within b) × (Within b → (leb 0x322BCC77 b && leb b 0x4CBEBC20) ≡ true)
within-test b = (to (leb 0x322BCC77 b) refl, λ w. rw (le-leb 0x322BCC77 b w.0, le-leb b 0x4CBEBC20 w.1))
  where
    to : (x : Bool) → leb 0x322BCC77 b ≡ x → (x && leb b 0x4CBEBC20) ≡ true → Within b
    to true e f = (leb-true 0x322BCC77 b e, leb-true b 0x4CBEBC20 f)
    to false e f = absurd (true≢false (sym f))

-- a scale made of 32 bits is in range exactly if they are, since those of a NaN are not
in-range : (b : ℕ) → b < 2 ^ 32 → (in_range (of_bits binary32 b) ≡ true → Within b) × (Within b → in_range (of_bits binary32 b) ≡ true)
unfolding in_range
in-range b h = go (is_nan (of_bits binary32 b)) refl
  where
    go : (t : Bool) → is_nan (of_bits binary32 b) ≡ t → (in_range (of_bits binary32 b) ≡ true → Within b) × (Within b → in_range (of_bits binary32 b) ≡ true)
    go true e =
        let l : 2139095040 < b % 2147483648 = ltb-true (ones binary32 * hid binary32) (b % top binary32) (sym (nan_bits_above binary32 b) ∙ nan_bits_is binary32 b ∙ e) in
        rw e ((λ x. absurd (true≢false (sym x))), (λ k. absurd (omega (arith, k.1))))
    go false e =
        let q : to_bits binary32 (of_bits binary32 b) ≡ b = to_bits-of_bits binary32 b h (subst (λ (t : Bool). T (not t)) (sym e) tt) in
        rw (e, q) (within-test b)

-- the answer by the two tests
abbrev number : Bool → Bool → Float → ℕ
number x y shown = (cond {A = Answer} (x && y) (record { number = 0; value = shown }) (record { number = 50; value = of_bits binary64 0 })).number

module _ (b d : ℕ) (small : b < 2 ^ 32) (shown : Float) where
  to : (x y : Bool) → in_range (of_bits binary32 b) ≡ x → leb d 7 ≡ y → number x y shown ≡ 50 → (Within b → ⊥) ⊎ (7 < d)
  to true true e f n = absurd (omega arith)
  to true false e f n = inr (leb-false d 7 f)
  to false y e f n = inl (λ w. absurd (true≢false (sym ((in-range b small).1 w) ∙ e)))

  from : (x y : Bool) → in_range (of_bits binary32 b) ≡ x → leb d 7 ≡ y → (Within b → ⊥) ⊎ (7 < d) → number x y shown ≡ 50
  from false y e f c = refl
  from true false e f c = refl
  from true true e f (inl n) = absurd (n ((in-range b small).0 e))
  from true true e f (inr l) = let k = leb-true d 7 f in absurd (omega arith)

pub fifty-is-rule-five : FiftyIsRuleFive
unfolding shown_of
fifty-is-rule-five v offset b d small = (
  to b d small _ (in_range (of_bits binary32 b)) (leb d 7) refl refl,
  from b d small _ (in_range (of_bits binary32 b)) (leb d 7) refl refl,
)
