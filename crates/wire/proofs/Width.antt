-- The laws of numbers as bytes, at every width. Assumes nothing.
use mathlib.Core.Path.{◌≡◌, refl, sym, ap, ◌∙◌}
use mathlib.Core.List.{List, [], ◌∷◌, ◌++◌, append_assoc}
use Prim.Native.Nat.{ℕ, zero, suc, ◌+◌, ◌*◌, ◌-◌, ◌/◌, ◌%◌, ◌^◌, ◌<◌, ◌≤◌, zero-le}
use native.Mathlib.Nat.{add_comm, pow-suc, mod-one, zero-lt-suc, pow-le-pow_right}
use native.Mathlib.Omega.{arith}
use native.Mathlib.Numerals.{add-one}
use lib.Arith.{mod-mul}
use lib.ListN.{length, get_or, set, take, drop, length-append, length-drop, drop_of_length-le}
use lib.Seq.{drop-cons, sets, sets-eq, drop_at, take_at, length-take-le, take-nil, take_all}
use Rattle.wire.specs.Bytes.{le_of, bytes_of, number_in}

-- one byte more in front
pub more : (s : List ℕ) (p m : ℕ) → p < length s → le_of (take (suc m) (drop p s)) ≡ get_or s p 0 + le_of (take m (drop (suc p) s)) * 256
unfolding le_of
more s p m h = rw (drop-cons s p 0)

pub grows : (m x b : ℕ) → x < 256 ^ m → b < 256 → x * 256 + b < 256 ^ suc m
grows m x b h k = rw (pow-suc 256 m) (omega arith)

-- the powers up to the eighth, which fits 64 bits
pub room : (m : ℕ) → m ≤ 8 → 256 ^ m ≤ 2 ^ 64
room m h = pow-le-pow_right (zero-lt-suc 255) h

pub positive : (w : ℕ) → 0 < 256 ^ w
positive w = pow-le-pow_right (zero-lt-suc 255) {i = 0} {j = w} zero-le

-- what is written and read back is the number, cut to the width
pub back : (w x : ℕ) → le_of (bytes_of w x) ≡ x % 256 ^ w
unfolding le_of bytes_of
back zero x = sym (mod-one x)
back (suc w) x = rw (back w (x / 256), pow-suc 256 w, mod-mul x (positive w) (zero-lt-suc 255)) (omega arith)

pub bytes-long : (w x : ℕ) → length (bytes_of w x) ≡ w
unfolding bytes_of
bytes-long zero x = refl
bytes-long (suc w) x = ap suc (bytes-long w (x / 256))

-- what stands at a place after the bytes are written there
pub written : (d : List ℕ) (at w x : ℕ) → at + w ≤ length d → take w (drop at (sets d at (bytes_of w x))) ≡ bytes_of w x
written d at w x h =
    let n = bytes-long w x in
    let m : length (take at d) ≡ at = length-take-le at d (omega arith) in
    rw (sets-eq (bytes_of w x) d at (rw n h), append_assoc, drop_at (take at d) _ at m, take_at (bytes_of w x) _ w n)

-- one byte of the bytes that are still to be written
pub step : (d : List ℕ) (w i y : ℕ) → i < w → sets d i (bytes_of (w - i) y) ≡ sets (set d i (y % 256)) (i + 1) (bytes_of (w - (i + 1)) (y / 256))
unfolding bytes_of
step d w i y h =
    let e : w - i ≡ suc (w - (i + 1)) = omega arith in
    rw (e, add-one)

-- a turn of the reading loop, from the last byte down: those before it are still to be passed
pub turn : (bytes left now passed : List ℕ) (b x : ℕ) → left ++ passed ≡ bytes → left ≡ now ++ b ∷ [] → x ≡ le_of passed → (now ++ (b ∷ passed) ≡ bytes) × (x * 256 + b ≡ le_of (b ∷ passed))
unfolding le_of
turn bytes left now passed b x all last is = (rw (last, append_assoc) at all, rw (← is) (add_comm (x * 256) b))

pub shorter : (bytes left now passed : List ℕ) (b : ℕ) → left ++ passed ≡ bytes → left ≡ now ++ b ∷ [] → length passed < length bytes
shorter bytes left now passed b all last = rw (← all, last) (simp length-append (omega arith))

pub all-passed : (bytes left passed : List ℕ) → left ++ passed ≡ bytes → length left ≡ 0 → passed ≡ bytes
all-passed bytes [] passed all none = all
all-passed bytes (b ∷ left) passed all none = absurd (omega arith)

pub part-long : (w at : ℕ) (s : List ℕ) → at + w ≤ length s → length (take w (drop at s)) ≡ w
part-long w at s h = length-take-le w (drop at s) (omega (arith, length-drop at s))

-- bytes past the end add nothing
pub past_end : (w : ℕ) (s : List ℕ) (at : ℕ) → length s ≤ at → number_in w s at ≡ 0
unfolding number_in le_of
past_end w s at h = rw (drop_of_length-le s h, take-nil w)

pub cut_short : (w : ℕ) (s : List ℕ) (at : ℕ) → length s - at ≤ w → number_in (length s - at) s at ≡ number_in w s at
unfolding number_in
cut_short w s at h =
    let l = length-drop at s in
    ap le_of (take_all (length s - at) (drop at s) (omega arith) ∙ sym (take_all w (drop at s) (omega arith)))

pub narrower : (v w : ℕ) → v ≤ w → 256 ^ v ≤ 256 ^ w
narrower v w h = pow-le-pow_right (zero-lt-suc 255) h

-- what is written at a place and read back there is the number, cut to the width
pub read_back : (w : ℕ) (d : List ℕ) (at x : ℕ) → at + w ≤ length d → number_in w (sets d at (bytes_of w x)) at ≡ x % 256 ^ w
unfolding number_in
read_back w d at x h = ap le_of (written d at w x h) ∙ back w x
