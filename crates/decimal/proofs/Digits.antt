-- The digits of a number: those of the number divided by ten, and its last digit. Assumes nothing.
use mathlib.Core.Path.{◌≡◌, sym, ap, ◌∙◌}
use mathlib.Core.List.{List, [], ◌∷◌, ◌++◌}
use Prim.Native.Nat.{ℕ, zero, suc, ◌*◌, ◌-◌, ◌/◌, ◌%◌, ◌^◌, ◌≤◌, ◌<◌}
use native.Mathlib.Nat.{pow-suc, not-suc-le-zero, mod-eq_of_lt}
use native.Mathlib.Decide.{dec_lt}
use native.Mathlib.Omega.{arith}
use borrow.Author.Tests.{lt-ltb, le-ltb}
use lib.ListN.{length, length-append}
use Rattle.io.specs.Digits.{hex_digit_ascii, IsDigitCount}
use Rattle.io.specs.Digits.{last_digits as ioDigits}
use Rattle.decimal.specs.Digits.{digit, digits_in, digits}

in_small : (turns n : ℕ) → n < 10 → digits_in (suc turns) n ≡ digit n ∷ []
unfolding digits_in
in_small turns n h = rw (lt-ltb n 10 h)

in-large : (turns n : ℕ) → 10 ≤ n → digits_in (suc turns) n ≡ digits_in turns (n / 10) ++ digit (n % 10) ∷ []
unfolding digits_in
in-large turns n h = rw (le-ltb n 10 h)

-- turns beyond those that are needed change nothing
same-turns : (t u n : ℕ) → n < t → n < u → digits_in t n ≡ digits_in u n
same-turns zero u n h k = absurd (not-suc-le-zero h)
same-turns (suc t) zero n h k = absurd (not-suc-le-zero k)
same-turns (suc t) (suc u) n h k = go (dec_lt n 10) (same-turns t u (n / 10))
  where
    go : Dec (n < 10) → (n / 10 < t → n / 10 < u → digits_in t (n / 10) ≡ digits_in u (n / 10)) → digits_in (suc t) n ≡ digits_in (suc u) n
    go (yes l) tenth = in_small t n l ∙ sym (in_small u n l)
    go (no l) tenth = in-large t n (omega arith) ∙ ap (λ (ds : List ℕ). ds ++ digit (n % 10) ∷ []) (tenth (omega arith) (omega arith)) ∙ sym (in-large u n (omega arith))

pub digits-small : (n : ℕ) → n < 10 → digits n ≡ digit n ∷ []
unfolding digits
digits-small n h = in_small n n h

pub digits-large : (n : ℕ) → 10 ≤ n → digits n ≡ digits (n / 10) ++ digit (n % 10) ∷ []
unfolding digits
digits-large n h = in-large n n h ∙ ap (λ (ds : List ℕ). ds ++ digit (n % 10) ∷ []) (same-turns n (suc (n / 10)) (n / 10) (omega arith) (omega arith))

-- a number below 10 to the k has at most k digits
pub digits-few : (k n : ℕ) → 0 < k → n < 10 ^ k → length (digits n) ≤ k
digits-few zero n h l = absurd (not-suc-le-zero h)
digits-few (suc k) n h l = go (dec_lt n 10) k l (digits-few k (n / 10))
  where
    go : Dec (n < 10) → (k : ℕ) → n < 10 ^ suc k → (0 < k → n / 10 < 10 ^ k → length (digits (n / 10)) ≤ k) → length (digits n) ≤ suc k
    go (yes s) k l tenth = rw (digits-small n s) (omega arith)
    go (no s) zero l tenth = let one : n < 10 = l in absurd (omega arith)
    go (no s) (suc k) l tenth =
        let t : n < 10 ^ suc k * 10 = rw (pow-suc 10 (suc k)) at l in
        let few = tenth (omega arith) (omega arith) in
        rw (digits-large n (omega arith), length-append) (omega arith)

glyph-digit : (d : ℕ) → d < 10 → hex_digit_ascii d ≡ digit d
glyph-digit d h = rw (lt-ltb d 10 h)

-- the digits that `io::decimal` writes: as few as hold the number
pub spelt : (k n : ℕ) → IsDigitCount 10 1 n k → ioDigits 10 k n ≡ digits n
spelt zero n f = absurd (not-suc-le-zero f.0)
spelt (suc zero) n f =
    let s : n < 10 = f.1 in
    let m : n % 10 ≡ n = mod-eq_of_lt s in
    ap (λ (d : ℕ). d ∷ []) (ap hex_digit_ascii m ∙ glyph-digit n s) ∙ sym (digits-small n s)
spelt (suc (suc j)) n f =
    let less : suc (suc j) - 1 ≡ suc j = omega arith in
    let large : 10 ^ suc j ≤ n = rw less at (f.2 (omega arith)) in
    let below : n < 10 ^ suc j * 10 = rw (pow-suc 10 (suc j)) at f.1 in
    let ten : 10 ^ suc j ≡ 10 ^ j * 10 = pow-suc 10 j in
    let some : 0 < 10 ^ j = positive j in
    ap (λ (ds : List ℕ). ds ++ hex_digit_ascii (n % 10) ∷ []) (spelt (suc j) (n / 10) (omega arith, omega arith, λ (l : 1 < suc j). let same : suc j - 1 ≡ j = omega arith in rw same (omega arith)))
    ∙ ap (λ (d : ℕ). digits (n / 10) ++ d ∷ []) (glyph-digit (n % 10) (omega arith))
    ∙ sym (digits-large n (omega arith))
  where
    positive : (j : ℕ) → 0 < 10 ^ j
    positive zero = omega arith
    positive (suc j) = rw (pow-suc 10 j) (omega (arith, positive j))
