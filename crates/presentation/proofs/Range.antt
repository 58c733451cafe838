-- What the test of a scale means. Assumes nothing.
use mathlib.Core.Path.{◌≡◌, sym, subst}
use mathlib.Core.Bool.{true, not}
use Prim.Native.Nat.{◌≤◌}
use lib.Dec.{T, leb, leb→le}
use lib.Ieee.{Float, binary32, is_nan, to_bits}
use lib.Ieee.Fits.{and_l, and_r}
use Rattle.presentation.specs.Display.{in_range}

module _ (x : Float) (ok : in_range x ≡ true) where
  in-range : T (in_range x)
  in-range = subst T (sym ok) tt

  pub a-number : T (not (is_nan x))
  unfolding in_range
  a-number = and_l (not (is_nan x)) _ in-range

  pub from-least : 0x322BCC77 ≤ to_bits binary32 x
  unfolding in_range
  from-least = leb→le 0x322BCC77 (to_bits binary32 x) (and_l (leb 0x322BCC77 (to_bits binary32 x)) _ (and_r (not (is_nan x)) _ in-range))

  pub to-greatest : to_bits binary32 x ≤ 0x4CBEBC20
  unfolding in_range
  to-greatest = leb→le (to_bits binary32 x) 0x4CBEBC20 (and_r (leb 0x322BCC77 (to_bits binary32 x)) _ (and_r (not (is_nan x)) _ in-range))
