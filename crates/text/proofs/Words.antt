-- Eight bytes read as one word, and what that shows about which of them are below 0x80. Assumes nothing.
use mathlib.Core.Path.{◌≡◌, refl, ap, ap₂, ◌∙◌}
use mathlib.Core.List.{List}
use Prim.Native.Nat.{ℕ, zero, suc, ◌+◌, ◌*◌, ◌-◌, ◌≤◌, ◌<◌}
use native.Mathlib.Decide.{dec_lt}
use native.Mathlib.Nat.{add-zero, add_comm}
use native.Mathlib.Omega.{arith}
use lib.Bits.{bit_and, and_block, and_lt}
use lib.ListN.{length, get_or, take, drop, get_or-eq_default, length-take}
use lib.Seq.{get_or-drop, get_or-take}
use Rattle.wire.specs.Bytes.{le_of}
use Rattle.wire.proofs.Width.{more}

-- the word of w bytes that fall by one each, to l, and the high bits of its bytes
unfoldable pub reaches : ℕ → ℕ → ℕ
reaches zero l = 0
reaches (suc w) l = (l + w) + reaches w l * 256

unfoldable pub highs : ℕ → ℕ
highs zero = 0
highs (suc w) = 128 + highs w * 256

-- the lowest byte apart
low : (a b r s : ℕ) → r < 256 → s < 256 → bit_and (r + a * 256) (s + b * 256) ≡ bit_and a b * 256 + bit_and r s
low a b r s hr hs =
    let e : r + a * 256 ≡ a * 256 + r = omega arith in
    let f : s + b * 256 ≡ b * 256 + s = omega arith in
    ap₂ bit_and e f ∙ and_block 8 a b r s hr hs

-- two bytes with high bits have one in common
byte : (x l : ℕ) → x < 256 → l < 256 → 128 ≤ l → bit_and (bit_and x l) 128 ≡ 0 → x < 128
byte x l hx hl h e = go (dec_lt x 128)
  where
    go : Dec (x < 128) → x < 128
    go (yes b) = b
    go (no b) =
        let ex : x ≡ 1 * 128 + (x - 128) = omega arith in
        let el : l ≡ 1 * 128 + (l - 128) = omega arith in
        let z = bit_and (x - 128) (l - 128) in
        let both : bit_and x l ≡ 1 * 128 + z = ap₂ bit_and ex el ∙ and_block 7 1 1 (x - 128) (l - 128) (omega arith) (omega arith) in
        let small : z < 128 = and_lt 7 (x - 128) (l - 128) (omega arith) (omega arith) in
        let high : bit_and (bit_and x l) 128 ≡ 1 * 128 + bit_and z 0 = ap (λ (n : ℕ). bit_and n 128) both ∙ and_block 7 1 1 z 0 small (omega arith) in
        absurd (omega (arith, high, e))

-- the first byte apart
first : (w : ℕ) (s : List ℕ) (at l : ℕ) → at + suc w ≤ length s → get_or s at 0 < 256 → l + w < 256
    → bit_and (bit_and (le_of (take (suc w) (drop at s))) (reaches (suc w) l)) (highs (suc w))
    ≡ bit_and (bit_and (le_of (take w (drop (suc at) s))) (reaches w l)) (highs w) * 256 + bit_and (bit_and (get_or s at 0) (l + w)) 128
unfolding reaches highs
first w s at l room byte fits =
    let x = get_or s at 0 in
    let rest = le_of (take w (drop (suc at) s)) in
    ap (λ (n : ℕ). bit_and (bit_and n ((l + w) + reaches w l * 256)) (128 + highs w * 256)) (more s at w (omega arith))
    ∙ ap (λ (n : ℕ). bit_and n (128 + highs w * 256)) (low rest (reaches w l) x (l + w) byte fits ∙ add_comm _ (bit_and x (l + w)))
    ∙ low (bit_and rest (reaches w l)) (highs w) (bit_and x (l + w)) 128 (and_lt 8 x (l + w) byte fits) (omega arith)

-- where none of the high bits is in common, a byte that the word reaches is below 80
pub single : (w : ℕ) (s : List ℕ) (at l : ℕ) → at + w ≤ length s → ((k : ℕ) → get_or s k 0 < 256) → l + w ≤ 256
    → bit_and (bit_and (le_of (take w (drop at s))) (reaches w l)) (highs w) ≡ 0 → (k : ℕ) → k < w → 0x80 + suc k ≤ l + w → get_or s (at + k) 0 < 0x80
single zero s at l room bytes fits e k h reach = absurd (omega arith)
single (suc w) s at l room bytes fits e zero h reach =
    let split = first w s at l room (bytes at) (omega arith) in
    rw (add-zero at) (byte (get_or s at 0) (l + w) (bytes at) (omega arith) (omega arith) (omega (arith, split, e)))
single (suc w) s at l room bytes fits e (suc k) h reach =
    let split = first w s at l room (bytes at) (omega arith) in
    let none : bit_and (bit_and (le_of (take w (drop (suc at) s))) (reaches w l)) (highs w) ≡ 0 = omega (arith, split, e) in
    let next : suc at + k ≡ at + suc k = omega arith in
    rw next at (single w s (suc at) l (omega arith) bytes (omega arith) none k (omega arith) (omega arith))

-- the word of 8 bytes, as it is computed
pub reaches-8 : (reach : ℕ) → 7 ≤ reach → reaches 8 (reach - 7) ≡ reach * 0x0101010101010101 - 0x0706050403020100
unfolding reaches
reaches-8 reach h = omega arith

pub highs-8 : highs 8 ≡ 0x8080808080808080
unfolding highs
highs-8 = refl

-- a text's bytes are those of the pool from its place on
pub bytes_of : (p : List ℕ) (from n : ℕ) → ((k : ℕ) → k < n → get_or p (from + k) 0 < 0x80) → (k : ℕ) → get_or (take n (drop from p)) k 0 < 0x80
bytes_of p from n h k = go (dec_lt k n)
  where
    go : Dec (k < n) → get_or (take n (drop from p)) k 0 < 0x80
    go (yes b) = rw (get_or-take n (drop from p) k 0 b, get_or-drop from p k 0) (h k b)
    go (no b) = rw (get_or-eq_default (take n (drop from p)) 0 {n = k} (omega (arith, length-take n (drop from p)))) (omega arith)

-- four words cover 32 bytes
module _ (p : List ℕ) (from n : ℕ) (few : n ≤ 32) where
  abbrev pub Single : ℕ → ℕ → Type 0
  Single at reach = (k : ℕ) → k < 8 → 0x80 + k ≤ reach → get_or p (at + k) 0 < 0x80

  pub covered : Single from (n + 127) → Single (from + 8) (n + 119) → Single (from + 16) (n + 111) → Single (from + 24) (n + 103) → (k : ℕ) → k < n → get_or p (from + k) 0 < 0x80
  covered h0 h1 h2 h3 k b = go (dec_lt k 8) (dec_lt k 16) (dec_lt k 24)
    where
      later : (at : ℕ) → at ≤ k → from + at + (k - at) ≡ from + k
      later at h = omega arith

      go : Dec (k < 8) → Dec (k < 16) → Dec (k < 24) → get_or p (from + k) 0 < 0x80
      go (yes x) y z = h0 k x (omega arith)
      go (no x) (yes y) z = rw (later 8 (omega arith)) at (h1 (k - 8) (omega arith) (omega arith))
      go (no x) (no y) (yes z) = rw (later 16 (omega arith)) at (h2 (k - 16) (omega arith) (omega arith))
      go (no x) (no y) (no z) = rw (later 24 (omega arith)) at (h3 (k - 24) (omega arith) (omega arith))
