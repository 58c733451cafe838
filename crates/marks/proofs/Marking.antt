-- One more bit set in a list of bits. Assumes nothing.
use mathlib.Core.Path.{◌≡◌, refl, sym, ap, ◌∙◌}
use mathlib.Core.Bool.{Bool, true, false, ◌||◌}
use mathlib.Core.List.{List}
use Prim.Native.Nat.{ℕ, zero, suc, ◌*◌, ◌<◌, ◌/◌, ◌%◌, ◌^◌, max}
use native.Mathlib.Nat.{mod-lt, mod-eq_of_lt, div-one, div_self, div-eq_of_lt, mul-div-mul_right, mul-mod_left, mul-add-mod_self_right, zero-div, zero-lt-suc, pow-suc, one-mul}
use native.Mathlib.Decide.{ℕ_discrete}
use native.Mathlib.Omega.{arith}
use borrow.Author.Tests.{eq-eqb, ne_eqb}
use lib.Bits.{bit_or, or_step, or_shr}
use lib.Dec.{eqb}
use lib.ListN.{length, get_or, set}
use lib.Pow.{pow_pos, pow-lt}
use lib.Seq.{get_or-set_same, get_or-set_other}
use Rattle.marks.specs.Bits.{bit, bit_at}

-- no bit of a list of zeros is set
pub blank-bits : (marks : List ℕ) → ((x : ℕ) → get_or marks x 0 ≡ 0) → (i : ℕ) → bit_at marks i ≡ false
unfolding bit_at bit
blank-bits marks blank i = rw (blank (i / 8), zero-div (2 ^ (i % 8)))

-- ---- one byte

-- of the bits of 2 ^ k, bit k alone is set
power-same : (k : ℕ) → bit (2 ^ k) k ≡ true
unfolding bit
power-same k = rw (div_self (pow_pos k))

power-other : (k j : ℕ) → (j ≡ k → ⊥) → 2 ^ k / 2 ^ j % 2 ≡ 0
power-other zero zero d = absurd (d refl)
power-other zero (suc j) d = rw (div-eq_of_lt (pow-lt (zero-lt-suc j)))
power-other (suc k) zero d = rw (div-one (2 ^ suc k), pow-suc 2 k) (mul-mod_left (2 ^ k) 2)
power-other (suc k) (suc j) d =
    rw (pow-suc 2 k, pow-suc 2 j, mul-div-mul_right (2 ^ k) (2 ^ j) (zero-lt-suc 1)) (power-other k j (λ (e : j ≡ k). d (ap suc e)))

power-bit : (k j : ℕ) → bit (2 ^ k) j ≡ eqb j k
unfolding bit
power-bit k j = go (ℕ_discrete j k)
  where
    go : Dec (j ≡ k) → bit (2 ^ k) j ≡ eqb j k
    go (yes e) = rw (e, eq-eqb k k refl) (power-same k)
    go (no d) = rw (power-other k j d, ne_eqb j k d)

-- the last bit of the union of two numbers
odd : (x y : ℕ) → x < 2 → y < 2 → eqb (max x y % 2) 1 ≡ (eqb y 1 || eqb x 1)
odd zero zero a b = refl
odd zero (suc zero) a b = refl
odd zero (suc (suc y)) a b = absurd (omega arith)
odd (suc zero) zero a b = refl
odd (suc zero) (suc zero) a b = refl
odd (suc zero) (suc (suc y)) a b = absurd (omega arith)
odd (suc (suc x)) y a b = absurd (omega arith)

or-bit : (w m j : ℕ) → bit (bit_or w m) j ≡ (bit m j || bit w j)
unfolding bit
or-bit w m j =
    rw (or_shr w m j, or_step (w / 2 ^ j) (m / 2 ^ j), mul-add-mod_self_right (bit_or (w / 2 ^ j / 2) (m / 2 ^ j / 2)) 2 (max (w / 2 ^ j % 2) (m / 2 ^ j % 2)))
    (odd (w / 2 ^ j % 2) (m / 2 ^ j % 2) (mod-lt (w / 2 ^ j) (zero-lt-suc 1)) (mod-lt (m / 2 ^ j) (zero-lt-suc 1)))

byte-bit : (w k j : ℕ) → k < 8 → bit (bit_or w (1 * 2 ^ k % 256)) j ≡ (eqb j k || bit w j)
byte-bit w k j l =
    let small : 2 ^ k < 256 = pow-lt l in
    rw (one-mul (2 ^ k), mod-eq_of_lt small)
    (or-bit w (2 ^ k) j ∙ ap (λ (b : Bool). b || bit w j) (power-bit k j))

-- ---- the list

module _ (marks : List ℕ) (i : ℕ) (inside : i < 8 * length marks) where
  abbrev marked : List ℕ
  marked = set marks (i / 8) (bit_or (get_or marks (i / 8) 0) (1 * 2 ^ (i % 8) % 256))

  -- a number of the same byte is the number itself if its bit is
  same_bit : (j : ℕ) → j / 8 ≡ i / 8 → eqb (j % 8) (i % 8) ≡ eqb j i
  same_bit j e = go (ℕ_discrete j i)
    where
      go : Dec (j ≡ i) → eqb (j % 8) (i % 8) ≡ eqb j i
      go (yes q) = rw (q, eq-eqb i i refl) (eq-eqb (i % 8) (i % 8) refl)
      go (no d) = ne_eqb (j % 8) (i % 8) (λ (q : j % 8 ≡ i % 8). d (omega arith)) ∙ sym (ne_eqb j i d)

  pub marked-bit : (j : ℕ) → bit_at marked j ≡ (eqb j i || bit_at marks j)
  unfolding bit_at
  marked-bit j = go (ℕ_discrete (j / 8) (i / 8))
    where
      go : Dec (j / 8 ≡ i / 8) → bit_at marked j ≡ (eqb j i || bit_at marks j)
      go (yes e) =
          rw (e, get_or-set_same marks (i / 8) (bit_or (get_or marks (i / 8) 0) (1 * 2 ^ (i % 8) % 256)) 0 (omega arith))
          (byte-bit (get_or marks (i / 8) 0) (i % 8) (j % 8) (mod-lt i (zero-lt-suc 7)) ∙ ap (λ (b : Bool). b || bit (get_or marks (i / 8) 0) (j % 8)) (same_bit j e))
      go (no d) =
          rw (get_or-set_other marks (i / 8) (j / 8) (bit_or (get_or marks (i / 8) 0) (1 * 2 ^ (i % 8) % 256)) 0 d, ne_eqb j i (λ (q : j ≡ i). d (ap (λ (x : ℕ). x / 8) q)))
