-- The place after bytes that were written. Assumes nothing.
use mathlib.Core.Path.{◌≡◌}
use mathlib.Core.Bool.{true, false}
use mathlib.Core.List.{List}
use Prim.Native.Nat.{ℕ, ◌+◌}
use lib.Dec.{leb}
use lib.ListN.{length}
use Rattle.decimal.specs.Digits.{place_after}

pub after-fits : (d : List ℕ) (at : ℕ) (bs : List ℕ) → leb (at + length bs) (length d) ≡ true → place_after d at bs ≡ at + length bs
unfolding place_after
after-fits d at bs h = rw h

pub after-short : (d : List ℕ) (at : ℕ) (bs : List ℕ) → leb (at + length bs) (length d) ≡ false → place_after d at bs ≡ at
unfolding place_after
after-short d at bs h = rw h
