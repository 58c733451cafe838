-- The parts of a record written one after the other. Assumes nothing.
use mathlib.Core.Path.{◌≡◌, sym, ap, ◌∙◌}
use mathlib.Core.List.{List, [], ◌∷◌, ◌++◌}
use Prim.Native.Nat.{ℕ, zero, suc, ◌+◌, ◌-◌, ◌≤◌, ◌<◌}
use native.Mathlib.Nat.{zero-add}
use native.Mathlib.Numerals.{add-one}
use native.Mathlib.Omega.{arith}
use lib.IntN.{ℤ, pos}
use lib.ListN.{length, get_or, set, length-append}
use lib.Seq.{sets}
use Rattle.wire.specs.Bytes.{bytes_of, bits_of}
use Rattle.wire.proofs.Width.{bytes-long}
use Rattle.wire.proofs.Laid.{sets_behind}
use Rattle.time_log.specs.Layout.{part_width, place_of}
use Rattle.log_writing.specs.Writing.{field_bits, bytes_before, pairs_from, record_bytes}
use Rattle.time_log.specs.declared.Fields.{Fields}

pub before-long : (layout : ℕ) (f : Fields) (k : ℕ) → length (bytes_before layout f k) ≡ place_of layout k
unfolding bytes_before place_of
before-long layout f zero = length-append (bytes_of 4 f.time) (bytes_of 2 f.days) ∙ rw (bytes-long 4 f.time, bytes-long 2 f.days)
before-long layout f (suc k) =
    length-append (bytes_before layout f k) (bytes_of (part_width layout k) (field_bits f k)) ∙ rw (before-long layout f k, bytes-long (part_width layout k) (field_bits f k))

pub head-laid : (d a b : List ℕ) (layout : ℕ) (f : Fields) → a ≡ sets d 0 (bytes_of 4 f.time) → b ≡ sets a 4 (bytes_of 2 f.days) → b ≡ sets d 0 (bytes_before layout f 0)
unfolding bytes_before
head-laid d a b layout f p q =
    let m : 4 ≡ 0 + length (bytes_of 4 f.time) = rw (bytes-long 4 f.time) in
    q
    ∙ ap (λ (l : List ℕ). sets l 4 (bytes_of 2 f.days)) p
    ∙ ap (λ (k : ℕ). sets (sets d 0 (bytes_of 4 f.time)) k (bytes_of 2 f.days)) m
    ∙ sets_behind (bytes_of 4 f.time) (bytes_of 2 f.days) d 0

-- what comes behind the bytes before a field
behind : (d a : List ℕ) (layout : ℕ) (f : Fields) (k : ℕ) (bs : List ℕ) → a ≡ sets d 0 (bytes_before layout f k) → sets a (place_of layout k) bs ≡ sets d 0 (bytes_before layout f k ++ bs)
behind d a layout f k bs e =
    let m : place_of layout k ≡ 0 + length (bytes_before layout f k) = sym (zero-add (length (bytes_before layout f k)) ∙ before-long layout f k) in
    ap (λ (l : List ℕ). sets l (place_of layout k) bs) e ∙ ap (λ (n : ℕ). sets (sets d 0 (bytes_before layout f k)) n bs) m ∙ sets_behind (bytes_before layout f k) bs d 0

pub next-laid : (d a b : List ℕ) (layout : ℕ) (f : Fields) (k : ℕ) → a ≡ sets d 0 (bytes_before layout f k) → b ≡ sets a (place_of layout k) (bytes_of (part_width layout k) (field_bits f k))
    → b ≡ sets d 0 (bytes_before layout f (suc k))
unfolding bytes_before
next-laid d a b layout f k e p = p ∙ behind d a layout f k (bytes_of (part_width layout k) (field_bits f k)) e

pub all_laid : (d a b : List ℕ) (layout : ℕ) (f : Fields) (n : ℕ) (os : List ℕ) (vs : List ℤ) → a ≡ sets d 0 (bytes_before layout f 9)
    → b ≡ sets (set a (place_of layout 9) n) (place_of layout 9 + 1) (pairs_from os vs 0 n) → b ≡ sets d 0 (record_bytes layout f n os vs)
unfolding record_bytes
all_laid d a b layout f n os vs e p =
    p ∙ rw (add-one (place_of layout 9)) (behind d a layout f 9 (n ∷ pairs_from os vs 0 n) e)

-- a turn of the loop over the pairs
pub pair-laid : (to after : List ℕ) (os : List ℕ) (vs : List ℤ) (p i n : ℕ) → i < n
    → after ≡ sets (set to p (get_or os i 0)) (p + 1) (bytes_of 4 (bits_of 4 (get_or vs i (pos 0))))
    → sets after (p + 5) (pairs_from os vs (i + 1) (n - (i + 1))) ≡ sets to p (pairs_from os vs i (n - i))
unfolding pairs_from
pair-laid to after os vs p i n h q =
    let x = bits_of 4 (get_or vs i (pos 0)) in
    let d = set to p (get_or os i 0) in
    let k : n - i ≡ suc (n - (i + 1)) = omega arith in
    let z : p + 5 ≡ (p + 1) + length (bytes_of 4 x) = rw (bytes-long 4 x) (omega arith) in
    rw (k, q, z, sets_behind (bytes_of 4 x) (pairs_from os vs (i + 1) (n - (i + 1))) d (p + 1), add-one p)

pub pairs-done : (os : List ℕ) (vs : List ℤ) (i n : ℕ) → n ≤ i → pairs_from os vs i (n - i) ≡ []
unfolding pairs_from
pairs-done os vs i n h = let e : n - i ≡ 0 = omega arith in rw e
