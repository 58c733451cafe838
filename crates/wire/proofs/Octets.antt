-- Numbers read from bytes, and written as the same bytes again. Assumes nothing.
use mathlib.Core.Path.{◌≡◌, refl, sym, ap, ap₂, ◌∙◌}
use mathlib.Core.Bool.{Bool, true, false, cond}
use mathlib.Core.List.{List, [], ◌∷◌}
use Prim.Native.Nat.{ℕ, zero, suc, ◌+◌, ◌*◌, ◌-◌, ◌/◌, ◌%◌, ◌^◌, ◌≤◌, ◌<◌}
use native.Mathlib.Omega.{arith}
use native.Mathlib.Nat.{add_comm, lt_of_lt_of_le}
use lib.Dec.{ltb}
use lib.IntN.{pos, negsuc}
use lib.ListN.{length, take, drop, length-take, length-drop}
use lib.Seq.{length-take-le, get_or-drop}
use Rattle.wire.specs.Bytes.{Octets, le_of, bytes_of, number_in, signed_of, bits_of}
use Rattle.wire.proofs.Width.{grows, narrower}

-- bytes of a number that is made of bytes
pub again : (bs : List ℕ) → Octets bs → bytes_of (length bs) (le_of bs) ≡ bs
unfolding bytes_of le_of
again [] h = refl
again (b ∷ bs) h =
    let l : b < 256 = h 0 in
    ap₂ ◌∷◌ (low b (le_of bs) l) (ap (bytes_of (length bs)) (rest b (le_of bs) l) ∙ again bs (λ (i : ℕ). h (suc i)))
  where
    low : (b n : ℕ) → b < 256 → (b + n * 256) % 256 ≡ b
    low b n l = omega arith

    rest : (b n : ℕ) → b < 256 → (b + n * 256) / 256 ≡ n
    rest b n l = omega arith

-- a number of 32 bits as a signed one and back
pub signed-again : (x : ℕ) → x < 256 ^ 4 → bits_of 4 (signed_of 4 x) ≡ x
unfolding signed_of bits_of
signed-again x h = go (ltb (2 * x) (256 ^ 4))
  where
    go : (t : Bool) → bits_of 4 (cond t (pos x) (negsuc (256 ^ 4 - suc x))) ≡ x
    go true = refl
    go false = omega arith

pub number_small : (bs : List ℕ) → Octets bs → le_of bs < 256 ^ length bs
unfolding le_of
number_small [] h = omega arith
number_small (b ∷ bs) h = rw (add_comm b (le_of bs * 256)) (grows (length bs) (le_of bs) b (number_small bs (λ (i : ℕ). h (suc i))) (h 0))

-- a part of bytes is bytes
take-octets : (n : ℕ) (s : List ℕ) → Octets s → Octets (take n s)
take-octets zero s h i = omega arith
take-octets (suc n) [] h i = omega arith
take-octets (suc n) (b ∷ s) h zero = h 0
take-octets (suc n) (b ∷ s) h (suc i) = take-octets n s (λ (j : ℕ). h (suc j)) i

part-octets : (w at : ℕ) (s : List ℕ) → Octets s → Octets (take w (drop at s))
part-octets w at s h = take-octets w (drop at s) (λ (i : ℕ). rw (get_or-drop at s i 0) (h (at + i)))

module _ (w at : ℕ) (s : List ℕ) (octets : Octets s) where
  -- a number that is read fits its bytes
  pub number_fits : number_in w s at < 256 ^ w
  unfolding number_in
  number_fits =
      lt_of_lt_of_le (number_small (take w (drop at s)) (part-octets w at s octets)) (narrower (length (take w (drop at s))) w (omega (arith, length-take w (drop at s))))

  -- and is written as the bytes that it was read from
  pub number-again : at + w ≤ length s → bytes_of w (number_in w s at) ≡ take w (drop at s)
  unfolding number_in
  number-again h =
      let n : w ≡ length (take w (drop at s)) = sym (length-take-le w (drop at s) (omega (arith, length-drop at s))) in
      ap (λ (k : ℕ). bytes_of k (le_of (take w (drop at s)))) n ∙ again (take w (drop at s)) (part-octets w at s octets)
