-- Bytes and numbers at equal distances, taken one by one. Assumes nothing.
use mathlib.Core.Path.{◌≡◌}
use mathlib.Core.List.{List, [], ◌∷◌}
use Prim.Native.Nat.{ℕ, suc, ◌+◌, ◌-◌, ◌≤◌, ◌<◌}
use native.Mathlib.Omega.{arith}
use lib.ListN.{get_or}
use Rattle.wire.specs.Bytes.{number_in, signed_of}
use Rattle.time_log.specs.Contents.{spaced, signed_from}

-- the first of those that are still to be taken
pub spaced-step : (step n i : ℕ) (s : List ℕ) (p : ℕ) → i < n → spaced step (n - i) s p ≡ get_or s p 0 ∷ spaced step (n - (i + 1)) s (p + step)
unfolding spaced
spaced-step step n i s p h = let e : n - i ≡ suc (n - (i + 1)) = omega arith in rw e

pub spaced-done : (step n i : ℕ) (s : List ℕ) (p : ℕ) → n ≤ i → spaced step (n - i) s p ≡ []
unfolding spaced
spaced-done step n i s p h = let e : n - i ≡ 0 = omega arith in rw e

pub signed-step : (n i : ℕ) (s : List ℕ) (p : ℕ) → i < n → signed_from (n - i) s p ≡ signed_of 4 (number_in 4 s p) ∷ signed_from (n - (i + 1)) s (p + 5)
unfolding signed_from
signed-step n i s p h = let e : n - i ≡ suc (n - (i + 1)) = omega arith in rw e

pub signed-done : (n i : ℕ) (s : List ℕ) (p : ℕ) → n ≤ i → signed_from (n - i) s p ≡ []
unfolding signed_from
signed-done n i s p h = let e : n - i ≡ 0 = omega arith in rw e
