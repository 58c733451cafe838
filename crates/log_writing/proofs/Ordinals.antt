-- A list of ordinals compared with the count of log values one by one. Assumes nothing.
use mathlib.Core.Path.{◌≡◌, refl}
use mathlib.Core.Bool.{Bool, true, false, ◌||◌}
use mathlib.Core.List.{List, [], ◌∷◌, ◌++◌}
use Prim.Native.Nat.{ℕ, suc, ◌+◌, ◌<◌}
use native.Mathlib.Omega.{arith}
use borrow.Author.Tests.{lt-leb}
use lib.Dec.{leb}
use lib.ListN.{length, get_or, take}
use lib.Seq.{take-suc}
use native.Mathlib.Numerals.{add-one}
use Rattle.time_log.specs.Judging.{one_over}

-- one ordinal more
over-more : (logged : ℕ) (xs : List ℕ) (x : ℕ) → one_over logged (xs ++ (x ∷ [])) ≡ (one_over logged xs || leb logged x)
unfolding one_over
over-more logged [] x = go (leb logged x)
  where
    go : (b : Bool) → (b || false) ≡ (false || b)
    go true = refl
    go false = refl
over-more logged (y ∷ xs) x = rw (over-more logged xs x) (go (leb logged y) (one_over logged xs) (leb logged x))
  where
    go : (a b d : Bool) → (a || (b || d)) ≡ ((a || b) || d)
    go true b d = refl
    go false b d = refl

pub over-turn : (over : Bool) (logged i : ℕ) (xs : List ℕ) → i < length xs → over ≡ one_over logged (take i xs) → (over || leb logged (get_or xs i 0)) ≡ one_over logged (take (i + 1) xs)
over-turn over logged i xs h e = rw (e, add-one i, take-suc xs i 0 h, over-more logged (take i xs) (get_or xs i 0))

-- no byte is above 255
pub none-over : (logged : ℕ) (xs : List ℕ) → 255 < logged → ((i : ℕ) → get_or xs i 0 < 256) → false ≡ one_over logged xs
unfolding one_over
none-over logged [] h f = refl
none-over logged (x ∷ xs) h f = rw (lt-leb logged x (omega (arith, f 0, h))) (none-over logged xs h (λ i. f (suc i)))
