-- The parts of a record that is read, written again. Assumes nothing.
use mathlib.Core.Path.{◌≡◌, refl, sym, ap, ap₂, ◌∙◌}
use mathlib.Core.Bool.{Bool, true, false, cond}
use mathlib.Core.Logic.{◌⊎◌, inl, inr}
use mathlib.Core.List.{List, ◌∷◌, ◌++◌}
use Prim.Native.Nat.{ℕ, zero, suc, ◌+◌, ◌*◌, ◌≤◌, ◌<◌}
use native.Mathlib.Nat.{lt_of_lt_of_le}
use native.Mathlib.Numerals.{add-one}
use native.Mathlib.Omega.{arith}
use borrow.Author.Tests.{eqb-true}
use lib.Dec.{eqb}
use lib.IntN.{ℤ, pos}
use lib.ListN.{length, get_or, take, drop, get_or-append}
use lib.Seq.{sets, sets-eq, take-add, take_at, drop-drop, drop-cons}
use Rattle.wire.specs.Bytes.{Octets, le_of, bytes_of, number_in, signed_of, bits_of}
use Rattle.wire.proofs.Width.{narrower}
use Rattle.wire.proofs.Octets.{signed-again, number-again, number_fits}
use Rattle.time_log.specs.Layout.{width, part_width, place_of, record_length}
use Rattle.time_log.specs.Contents.{part_at, fields_at, values_counted, spaced, signed_from, ordinals_at, values_at}
use Rattle.time_log.proofs.Parts.{width_small, part-is, place-large, part-there}
use Rattle.log_writing.specs.Writing.{number_kept, signed_kept, kept_fields, field_bits, bytes_before, pairs_from, record_bytes}

-- ---- a field that is not there reads as 0, so that nothing is dropped of what was read
no_part : (layout k : ℕ) (s : List ℕ) → part_width layout k ≡ 0 → part_at layout s k ≡ 0
unfolding part_at number_in le_of
no_part layout k s e = rw e

zero-signed : signed_of 4 0 ≡ pos 0
unfolding signed_of
zero-signed = refl

kept-number : (layout k : ℕ) (s : List ℕ) → number_kept layout k (part_at layout s k) ≡ part_at layout s k
kept-number layout k s = go (eqb (part_width layout k) 0) refl
  where
    go : (b : Bool) → eqb (part_width layout k) 0 ≡ b → cond b 0 (part_at layout s k) ≡ part_at layout s k
    go true e = sym (no_part layout k s (eqb-true (part_width layout k) 0 e))
    go false e = refl

kept-signed : (layout k : ℕ) (s : List ℕ) → signed_kept layout k (signed_of 4 (part_at layout s k)) ≡ signed_of 4 (part_at layout s k)
kept-signed layout k s = go (eqb (part_width layout k) 0) refl
  where
    go : (b : Bool) → eqb (part_width layout k) 0 ≡ b → cond b (pos 0) (signed_of 4 (part_at layout s k)) ≡ signed_of 4 (part_at layout s k)
    go true e = sym (ap (signed_of 4) (no_part layout k s (eqb-true (part_width layout k) 0 e)) ∙ zero-signed)
    go false e = refl

pub kept_same : (layout : ℕ) (s : List ℕ) → kept_fields layout (fields_at layout s) ≡ fields_at layout s
kept_same layout s =
    rw (kept-signed layout 0 s, kept-signed layout 1 s, kept-signed layout 2 s, kept-number layout 3 s, kept-number layout 4 s, kept-number layout 5 s, kept-number layout 6 s, kept-number layout 7 s, kept-number layout 8 s)

-- ---- the fields
module _ (layout : ℕ) (s : List ℕ) (octets : Octets s) (counted : place_of layout 9 < length s) where
  part-inside : (k : ℕ) → k ≤ 8 → place_of layout k + part_width layout k ≤ length s
  part-inside k h = omega (arith, part-there layout k h)

  part-again : (k : ℕ) → k ≤ 8 → bytes_of (part_width layout k) (part_at layout s k) ≡ take (part_width layout k) (drop (place_of layout k) s)
  unfolding part_at
  part-again k h = number-again (part_width layout k) (place_of layout k) s octets (part-inside k h)

  narrow : (k : ℕ) → part_width layout k ≤ 4
  narrow k = go (part-is layout k)
    where
      go : (part_width layout k ≡ 0) ⊎ (part_width layout k ≡ width k) → part_width layout k ≤ 4
      go (inl e) = omega arith
      go (inr e) = omega (arith, width_small k)

  signed_part : (k : ℕ) → k ≤ 8 → bytes_of (part_width layout k) (bits_of 4 (signed_of 4 (part_at layout s k))) ≡ take (part_width layout k) (drop (place_of layout k) s)
  unfolding part_at
  signed_part k h =
      ap (bytes_of (part_width layout k))
      (signed-again (part_at layout s k) (lt_of_lt_of_le (number_fits (part_width layout k) (place_of layout k) s octets) (narrower (part_width layout k) 4 (narrow k))))
      ∙ part-again k h

  abbrev F : ℕ → List ℕ
  F k = bytes_before layout (fields_at layout s) k

  head-again : F 0 ≡ take (place_of layout 0) s
  unfolding bytes_before place_of
  head-again =
      let l = place-large layout 9 in
      ap₂ ◌++◌ (number-again 4 0 s octets (omega arith)) (number-again 2 4 s octets (omega arith)) ∙ sym (take-add 4 2 s)

  next : (k : ℕ) → bytes_of (part_width layout k) (field_bits (fields_at layout s) k) ≡ take (part_width layout k) (drop (place_of layout k) s) → F k ≡ take (place_of layout k) s
      → F (suc k) ≡ take (place_of layout (suc k)) s
  unfolding bytes_before place_of
  next k e f = ap₂ ◌++◌ f e ∙ sym (take-add (place_of layout k) (part_width layout k) s)

  pub fields-again : F 9 ≡ take (place_of layout 9) s
  fields-again =
      next 8 (part-again 8 (omega arith))
      (next 7 (part-again 7 (omega arith))
      (next 6 (part-again 6 (omega arith))
      (next 5 (part-again 5 (omega arith))
      (next 4 (part-again 4 (omega arith))
      (next 3 (part-again 3 (omega arith))
      (next 2 (signed_part 2 (omega arith)) (next 1 (signed_part 1 (omega arith)) (next 0 (signed_part 0 (omega arith)) head-again))))))))

-- ---- the pairs
spaced-long : (n at : ℕ) (s : List ℕ) → length (spaced 5 n s at) ≡ n
unfolding spaced
spaced-long zero at s = refl
spaced-long (suc n) at s = ap suc (spaced-long n (at + 5) s)

signed-long : (n at : ℕ) (s : List ℕ) → length (signed_from n s at) ≡ n
unfolding signed_from
signed-long zero at s = refl
signed-long (suc n) at s = ap suc (signed-long n (at + 5) s)

spaced-at : (n at : ℕ) (s : List ℕ) (j : ℕ) → j < n → get_or (spaced 5 n s at) j 0 ≡ get_or s (at + 5 * j) 0
unfolding spaced
spaced-at zero at s j h = absurd (omega arith)
spaced-at (suc n) at s zero h = ap (λ (k : ℕ). get_or s k 0) (omega arith)
spaced-at (suc n) at s (suc j) h = spaced-at n (at + 5) s j (omega arith) ∙ ap (λ (k : ℕ). get_or s k 0) (omega arith)

signed-at : (n at : ℕ) (s : List ℕ) (j : ℕ) → j < n → get_or (signed_from n s at) j (pos 0) ≡ signed_of 4 (number_in 4 s (at + 5 * j))
unfolding signed_from
signed-at zero at s j h = absurd (omega arith)
signed-at (suc n) at s zero h = ap (λ (k : ℕ). signed_of 4 (number_in 4 s k)) (omega arith)
signed-at (suc n) at s (suc j) h = signed-at n (at + 5) s j (omega arith) ∙ ap (λ (k : ℕ). signed_of 4 (number_in 4 s k)) (omega arith)

-- what is put at the start of a list
module _ {A : Type 0} (ps xs : List A) (fits : length xs ≤ length ps) where
  starts : sets ps 0 xs ≡ xs ++ drop (0 + length xs) ps
  starts = sets-eq xs ps 0 (omega arith)

  put-at : (j : ℕ) (d : A) → j < length xs → get_or (sets ps 0 xs) j d ≡ get_or xs j d
  put-at j d h = ap (λ (l : List A). get_or l j d) starts ∙ get_or-append xs (drop (0 + length xs) ps) d j h

  put_first : (n : ℕ) → length xs ≡ n → take n (sets ps 0 xs) ≡ xs
  put_first n e = ap (take n) starts ∙ take_at xs (drop (0 + length xs) ps) n e

module _ (s : List ℕ) (octets : Octets s) (os : List ℕ) (vs : List ℤ) where
  pairs-same : (m i at : ℕ) → at + 5 * m ≤ length s → ((j k l : ℕ) → j < m → k ≡ i + j → l ≡ at + 5 * j → get_or os k 0 ≡ get_or s l 0)
      → ((j k l : ℕ) → j < m → k ≡ i + j → l ≡ at + 1 + 5 * j → get_or vs k (pos 0) ≡ signed_of 4 (number_in 4 s l)) → pairs_from os vs i m ≡ take (5 * m) (drop at s)
  unfolding pairs_from
  pairs-same zero i at h f g = refl
  pairs-same (suc m) i at h f g =
      let e : 5 * suc m ≡ suc (4 + 5 * m) = omega arith in
      let b : bytes_of 4 (bits_of 4 (get_or vs i (pos 0))) ≡ take 4 (drop (suc at) s) =
      ap (λ (z : ℤ). bytes_of 4 (bits_of 4 z)) (g 0 i (suc at) (omega arith) (omega arith) (omega arith))
      ∙ ap (bytes_of 4) (signed-again (number_in 4 s (suc at)) (number_fits 4 (suc at) s octets))
      ∙ number-again 4 (suc at) s octets (omega arith) in
      let r : pairs_from os vs (i + 1) m ≡ take (5 * m) (drop (at + 5) s) =
      pairs-same m (i + 1) (at + 5) (omega arith) (λ j k l u v w. f (suc j) k l (omega arith) (omega arith) (omega arith)) (λ j k l u v w. g (suc j) k l (omega arith) (omega arith) (omega arith)) in
      let a : suc at + 4 ≡ at + 5 = omega arith in
      let d : drop (at + 5) s ≡ drop 4 (drop (suc at) s) = ap (λ (k : ℕ). drop k s) (sym a) ∙ sym (drop-drop 4 (suc at) s) in
      ap₂ ◌∷◌ (f 0 i at (omega arith) (omega arith) (omega arith)) (ap₂ ◌++◌ b (r ∙ ap (take (5 * m)) d) ∙ sym (take-add 4 (5 * m) (drop (suc at) s)))
      ∙ ap (take (suc (4 + 5 * m))) (sym (drop-cons s at 0 (omega arith)))
      ∙ ap (λ (k : ℕ). take k (drop at s)) (sym e)

-- ---- the record
module _ (layout : ℕ) (s : List ℕ) (octets : Octets s) (ps : List ℕ) (ws : List ℤ) (whole : record_length layout (values_counted layout s) ≤ length s) (first : values_counted layout s ≤ length ps) (second : values_counted layout s ≤ length ws) where
  abbrev N : ℕ
  N = values_counted layout s

  abbrev P : ℕ
  P = place_of layout 9

  abbrev OS : List ℕ
  OS = sets ps 0 (ordinals_at layout s)

  abbrev VS : List ℤ
  VS = sets ws 0 (values_at layout s)

  some-ordinals : length (ordinals_at layout s) ≡ N
  some-ordinals = spaced-long N (P + 1) s

  some-values : length (values_at layout s) ≡ N
  some-values = signed-long N (P + 2) s

  pub ordinals-first : take N OS ≡ ordinals_at layout s
  ordinals-first = put_first ps (ordinals_at layout s) (omega (arith, some-ordinals)) N some-ordinals

  pairs-again : pairs_from OS VS 0 N ≡ take (5 * N) (drop (P + 1) s)
  unfolding record_length
  pairs-again =
      pairs-same s octets OS VS N 0 (P + 1) (omega arith)
      (λ j k l u v w.
      let e : k ≡ j = omega arith in
      rw (e, w) (put-at ps (ordinals_at layout s) (omega (arith, some-ordinals)) j 0 (omega (arith, some-ordinals)) ∙ spaced-at N (P + 1) s j u))
      (λ j k l u v w.
      let e : k ≡ j = omega arith in
      let y : l ≡ P + 2 + 5 * j = omega arith in
      rw (e, y) (put-at ws (values_at layout s) (omega (arith, some-values)) j (pos 0) (omega (arith, some-values)) ∙ signed-at N (P + 2) s j u))

  pub record-again : record_bytes layout (kept_fields layout (fields_at layout s)) N OS VS ≡ take (record_length layout N) s
  unfolding record_bytes record_length
  record-again =
      let e : P + 1 + 5 * N ≡ P + suc (5 * N) = omega arith in
      rw (kept_same layout s, fields-again layout s octets (omega arith), pairs-again, e, take-add P (suc (5 * N)) s, drop-cons s P 0 (omega arith), add-one P)
