-- A record that is written reads back the same. Assumes nothing.
use mathlib.Core.Path.{◌≡◌, refl, sym, ap, ap₂, ◌∙◌}
use mathlib.Core.Bool.{Bool, true, false, cond, ◌||◌}
use mathlib.Core.Logic.{◌⊎◌, inl, inr}
use mathlib.Core.List.{List, [], ◌∷◌, ◌++◌, append_assoc}
use Prim.Native.Nat.{ℕ, zero, suc, ◌+◌, ◌*◌, ◌%◌, ◌^◌, ◌≤◌, ◌<◌}
use native.Mathlib.Nat.{mod-eq_of_lt, mod-one, zero-add}
use native.Mathlib.Numerals.{add-one}
use native.Mathlib.Omega.{arith}
use borrow.Author.Tests.{le-ltb, eqb-true, eqb-false, ltb-false}
use lib.Dec.{eqb, ltb}
use lib.IntN.{ℤ, pos}
use lib.ListN.{length, get_or, take, drop, length-append}
use lib.Seq.{sets, sets-eq, drop_at, take_at, get_or_at, drop-cons}
use lib.Signed.{mag}
use Rattle.wire.specs.Bytes.{le_of, bytes_of, number_in, signed_of, bits_of}
use Rattle.wire.proofs.Width.{back, bytes-long, positive}
use Rattle.wire.proofs.Complement.{signed-bits, bits_small}
use Rattle.time_log.specs.Layout.{width, part_width, place_of, record_length}
use Rattle.time_log.specs.Contents.{part_at, fields_at, values_counted, extent_of, spaced, signed_from, ordinals_at, values_at}
use Rattle.time_log.specs.Judging.{one_over, refusal_of_fields, record_refusal}
use Rattle.log_reading.specs.Reading.{read_refusal, read_of, ordinals_after, values_after}
use Rattle.log_writing.specs.Writing.{number_kept, signed_kept, kept_fields, field_bits, bytes_before, pairs_from, record_bytes, write_refusal, bytes_after}
use Rattle.log_writing.specs.Back.{Typed, ReadsBack}
use Rattle.time_log.specs.declared.Fields.{Fields}
use Rattle.time_log.proofs.Parts.{part-is}
use Rattle.log_reading.proofs.Prefix.{accepted, fields-same, count_same, ordinals-same, values_same, refusal-more}
use Rattle.log_reading.proofs.Answers.{lists-long, after-success}
use Rattle.log_writing.proofs.Laying.{before-long}
use Rattle.log_writing.proofs.Outcomes.{none-of-three}

-- a number behind other bytes
number_behind : (w x : ℕ) (p t : List ℕ) (at : ℕ) → length p ≡ at → number_in w (p ++ (bytes_of w x ++ t)) at ≡ x % 256 ^ w
unfolding number_in
number_behind w x p t at e =
    ap le_of (ap (take w) (drop_at p (bytes_of w x ++ t) at e) ∙ take_at (bytes_of w x) t w (bytes-long w x)) ∙ back w x

-- bytes before a later field start with those before an earlier one
more : (layout : ℕ) (f : Fields) (k j : ℕ) → (t : List ℕ) × (bytes_before layout f (j + k) ≡ bytes_before layout f k ++ t)
unfolding bytes_before
more layout f k zero = ([], ap (bytes_before layout f) (zero-add k) ∙ sym (nothing (bytes_before layout f k)))
  where
    nothing : (l : List ℕ) → l ++ [] ≡ l
    nothing [] = refl
    nothing (x ∷ l) = ap (λ (m : List ℕ). x ∷ m) (nothing l)
more layout f k (suc j) =
    let e : suc j + k ≡ suc (j + k) = omega arith in
    let m = more layout f k j in
    let b = bytes_of (part_width layout (j + k)) (field_bits f (j + k)) in
    (m.0 ++ b, rw e (ap (λ (l : List ℕ). l ++ b) m.1 ∙ append_assoc (bytes_before layout f k) m.0 b))

module _ (layout : ℕ) (f : Fields) (t : List ℕ) where
  abbrev All : List ℕ
  All = bytes_before layout f 9 ++ t

  part-back : (k j : ℕ) → j + suc k ≡ 9 → part_at layout All k ≡ field_bits f k % 256 ^ part_width layout k
  unfolding part_at bytes_before
  part-back k j e =
      let m = more layout f (suc k) j in
      let b = bytes_of (part_width layout k) (field_bits f k) in
      let s : All ≡ bytes_before layout f k ++ (b ++ (m.0 ++ t)) = ap (λ (l : List ℕ). l ++ t) (ap (bytes_before layout f) (sym e) ∙ m.1) ∙ append_assoc (bytes_before layout f k ++ b) m.0 t ∙ append_assoc (bytes_before layout f k) b (m.0 ++ t) in
      rw s (number_behind (part_width layout k) (field_bits f k) (bytes_before layout f k) (m.0 ++ t) (place_of layout k) (before-long layout f k))

  head-back : f.time < 256 ^ 4 → f.days < 256 ^ 2 → (number_in 4 All 0 ≡ f.time) × (number_in 2 All 4 ≡ f.days)
  unfolding bytes_before
  head-back h d =
      let m = more layout f 0 9 in
      let s : All ≡ bytes_of 4 f.time ++ (bytes_of 2 f.days ++ (m.0 ++ t)) = ap (λ (l : List ℕ). l ++ t) m.1 ∙ append_assoc (bytes_of 4 f.time ++ bytes_of 2 f.days) m.0 t ∙ append_assoc (bytes_of 4 f.time) (bytes_of 2 f.days) (m.0 ++ t) in
      (rw s (number_behind 4 f.time [] (bytes_of 2 f.days ++ (m.0 ++ t)) 0 refl) ∙ mod-eq_of_lt h, rw s (number_behind 2 f.days (bytes_of 4 f.time) (m.0 ++ t) 4 (bytes-long 4 f.time)) ∙ mod-eq_of_lt d)

-- a field of its width, kept or dropped, is what its bytes hold
kept-number : (layout k x : ℕ) → x < 256 ^ width k → number_kept layout k x % 256 ^ part_width layout k ≡ number_kept layout k x
kept-number layout k x h = go (part-is layout k)
  where
    go : (part_width layout k ≡ 0) ⊎ (part_width layout k ≡ width k) → number_kept layout k x % 256 ^ part_width layout k ≡ number_kept layout k x
    go (inl e) = rw e (mod-one 0)
    go (inr e) = rw e (dropped (eqb (width k) 0))
      where
        dropped : (b : Bool) → cond b 0 x % 256 ^ width k ≡ cond b 0 x
        dropped true = mod-eq_of_lt (positive (width k))
        dropped false = mod-eq_of_lt h

signed-number : (z : ℤ) → mag z < 2 ^ 31 → signed_of 4 (bits_of 4 z % 256 ^ 4) ≡ z
signed-number z h = ap (signed_of 4) (mod-eq_of_lt (bits_small z h)) ∙ signed-bits z (record { sfits = h })

zero-signed : pos 0 ≡ signed_of 4 0
unfolding signed_of
zero-signed = refl

nothing-signed : signed_of 4 (bits_of 4 (pos 0) % 256 ^ 0) ≡ pos 0
unfolding bits_of
nothing-signed = ap (signed_of 4) (mod-one 0) ∙ sym zero-signed

kept-signed : (layout k : ℕ) (z : ℤ) → width k ≡ 4 → mag z < 2 ^ 31 → signed_of 4 (bits_of 4 (signed_kept layout k z) % 256 ^ part_width layout k) ≡ signed_kept layout k z
kept-signed layout k z w h = go (part-is layout k)
  where
    go : (part_width layout k ≡ 0) ⊎ (part_width layout k ≡ width k) → signed_of 4 (bits_of 4 (signed_kept layout k z) % 256 ^ part_width layout k) ≡ signed_kept layout k z
    go (inl e) = rw e nothing-signed
    go (inr e) = rw (e ∙ w) (signed-number z h)

fields_back : (layout : ℕ) (f : Fields) (t : List ℕ) → Typed f → fields_at layout (bytes_before layout (kept_fields layout f) 9 ++ t) ≡ kept_fields layout f
fields_back layout f t y =
    let g = kept_fields layout f in
    let h = head-back layout g t y.time y.days in
    rw (h.0, h.1, ap (signed_of 4) (part-back layout g t 0 8 refl) ∙ kept-signed layout 0 f.north refl y.north, ap (signed_of 4) (part-back layout g t 1 7 refl) ∙ kept-signed layout 1 f.east refl y.east, ap (signed_of 4) (part-back layout g t 2 6 refl) ∙ kept-signed layout 2 f.up refl y.up, part-back layout g t 3 5 refl ∙ kept-number layout 3 f.status y.status, part-back layout g t 4 4 refl ∙ kept-number layout 4 f.pdop y.pdop, part-back layout g t 5 3 refl ∙ kept-number layout 5 f.hdop y.hdop, part-back layout g t 6 2 refl ∙ kept-number layout 6 f.satellites y.satellites, part-back layout g t 7 1 refl ∙ kept-number layout 7 f.gps_time y.gps_time, part-back layout g t 8 0 refl ∙ kept-number layout 8 f.gps_date y.gps_date)

module _ (os : List ℕ) (vs : List ℤ) where
  pairs_long : (n i : ℕ) → length (pairs_from os vs i n) ≡ 5 * n
  unfolding pairs_from
  pairs_long zero i = refl
  pairs_long (suc n) i =
      let x = bits_of 4 (get_or vs i (pos 0)) in
      omega (arith, length-append (bytes_of 4 x) (pairs_from os vs (i + 1) n), bytes-long 4 x, pairs_long n (i + 1))

  pair_end : (p : List ℕ) (at o x : ℕ) → length p ≡ at → length (p ++ (o ∷ bytes_of 4 x)) ≡ at + 5
  pair_end p at o x e = omega (arith, length-append p (o ∷ bytes_of 4 x), bytes-long 4 x, e)

  pairs-ordinals : (n i : ℕ) (p : List ℕ) (at : ℕ) → length p ≡ at → i + n ≤ length os → spaced 5 n (p ++ pairs_from os vs i n) at ≡ take n (drop i os)
  unfolding spaced pairs_from
  pairs-ordinals zero i p at e h = refl
  pairs-ordinals (suc n) i p at e h =
      let o = get_or os i 0 in
      let x = bits_of 4 (get_or vs i (pos 0)) in
      let rest = pairs_from os vs (i + 1) n in
      ap₂ ◌∷◌ (get_or_at p o (bytes_of 4 x ++ rest) 0 at e) (ap (λ (l : List ℕ). spaced 5 n l (at + 5)) (sym (append_assoc p (o ∷ bytes_of 4 x) (rest))) ∙ pairs-ordinals n (i + 1) (p ++ (o ∷ bytes_of 4 x)) (at + 5) (pair_end p at o x e) (omega (arith, h)) ∙ ap (λ (k : ℕ). take n (drop k os)) (add-one i))
      ∙ sym (ap (take (suc n)) (drop-cons os i 0 (omega (arith, h))))

  pairs-values : (n i : ℕ) (p : List ℕ) (at : ℕ) → length p ≡ at → i + n ≤ length vs → ((j : ℕ) → mag (get_or vs j (pos 0)) < 2 ^ 31) → signed_from n (p ++ pairs_from os vs i n) (at + 1) ≡ take n (drop i vs)
  unfolding signed_from pairs_from
  pairs-values zero i p at e h y = refl
  pairs-values (suc n) i p at e h y =
      let o = get_or os i 0 in
      let v = get_or vs i (pos 0) in
      let x = bits_of 4 v in
      let rest = pairs_from os vs (i + 1) n in
      let m : length (p ++ (o ∷ [])) ≡ at + 1 = omega (arith, length-append p (o ∷ []), e) in
      let z : (at + 1) + 5 ≡ (at + 5) + 1 = omega arith in
      ap₂ ◌∷◌ (ap (signed_of 4) (ap (λ (l : List ℕ). number_in 4 l (at + 1)) (sym (append_assoc p (o ∷ []) (bytes_of 4 x ++ rest))) ∙ number_behind 4 x (p ++ (o ∷ [])) rest (at + 1) m) ∙ signed-number v (y i)) (ap (signed_from n (p ++ (o ∷ (bytes_of 4 x ++ rest)))) z ∙ ap (λ (l : List ℕ). signed_from n l ((at + 5) + 1)) (sym (append_assoc p (o ∷ bytes_of 4 x) (rest))) ∙ pairs-values n (i + 1) (p ++ (o ∷ bytes_of 4 x)) (at + 5) (pair_end p at o x e) (omega (arith, h)) y ∙ ap (λ (k : ℕ). take n (drop k vs)) (add-one i))
      ∙ sym (ap (take (suc n)) (drop-cons vs i (pos 0) (omega (arith, h))))

-- what a record that may be written is known by
allowed : (layout : ℕ) (f : Fields) (logged : ℕ) (os : List ℕ) (vs : List ℤ) (n room : ℕ) → write_refusal layout f logged os vs n room ≡ 0
    → (layout ≤ 511) × ((ltb 255 n || (ltb (length os) n || ltb (length vs) n)) ≡ false) × (refusal_of_fields (kept_fields layout f) (one_over logged (take n os)) ≡ 0) × (record_length layout n ≤ room)
unfolding write_refusal
allowed layout f logged os vs n room e =
    let g = go (ltb 511 layout) (ltb 255 n || (ltb (length os) n || ltb (length vs) n)) (refusal_of_fields (kept_fields layout f) (one_over logged (take n os))) (ltb room (record_length layout n)) (eqb (refusal_of_fields (kept_fields layout f) (one_over logged (take n os))) 0) refl e in
    (ltb-false 511 layout g.0, g.1, g.2, ltb-false room (record_length layout n) g.3)
  where
    go : (a b : Bool) (x : ℕ) (d q : Bool) → eqb x 0 ≡ q → cond a 47 (cond b 48 (cond q (cond d 46 0) x)) ≡ 0 → (a ≡ false) × (b ≡ false) × (x ≡ 0) × (d ≡ false)
    go true b x d q r e = absurd (omega (arith, e))
    go false true x d q r e = absurd (omega (arith, e))
    go false false x true true r e = absurd (omega (arith, e))
    go false false x false true r e = (refl, refl, eqb-true x 0 r, refl)
    go false false x d false r e = absurd (eqb-false x 0 r e)

module _ (layout : ℕ) (f : Fields) (n : ℕ) (os : List ℕ) (vs : List ℤ) where
  abbrev R : List ℕ
  R = record_bytes layout (kept_fields layout f) n os vs

  record-long : length R ≡ record_length layout n
  unfolding record_bytes record_length
  record-long =
      omega (arith, length-append (bytes_before layout (kept_fields layout f) 9) (n ∷ pairs_from os vs 0 n), before-long layout (kept_fields layout f) 9, pairs_long os vs n 0)

  count-back : values_counted layout R ≡ n
  unfolding record_bytes
  count-back = get_or_at (bytes_before layout (kept_fields layout f) 9) n (pairs_from os vs 0 n) 0 (place_of layout 9) (before-long layout (kept_fields layout f) 9)

  record-fields : Typed f → fields_at layout R ≡ kept_fields layout f
  unfolding record_bytes
  record-fields y = fields_back layout f (n ∷ pairs_from os vs 0 n) y

  abbrev P : List ℕ
  P = bytes_before layout (kept_fields layout f) 9 ++ (n ∷ [])

  before-pairs : length P ≡ place_of layout 9 + 1
  before-pairs = omega (arith, length-append (bytes_before layout (kept_fields layout f) 9) (n ∷ []), before-long layout (kept_fields layout f) 9)

  split : R ≡ P ++ pairs_from os vs 0 n
  unfolding record_bytes
  split = sym (append_assoc (bytes_before layout (kept_fields layout f) 9) (n ∷ []) (pairs_from os vs 0 n))

  ordinals_back : n ≤ length os → ordinals_at layout R ≡ take n os
  ordinals_back h = rw (count-back, split) (pairs-ordinals os vs n 0 P (place_of layout 9 + 1) before-pairs (omega (arith, h)))

  values_back : n ≤ length vs → ((j : ℕ) → mag (get_or vs j (pos 0)) < 2 ^ 31) → values_at layout R ≡ take n vs
  values_back h y =
      let z : place_of layout 9 + 2 ≡ (place_of layout 9 + 1) + 1 = omega arith in
      rw (count-back, split, z) (pairs-values os vs n 0 P (place_of layout 9 + 1) before-pairs (omega (arith, h)) y)

module _ (to : List ℕ) (layout : ℕ) (f : Fields) (logged : ℕ) (os : List ℕ) (vs : List ℤ) (n : ℕ) (ps : List ℕ) (ws : List ℤ) (may : write_refusal layout f logged os vs n (length to) ≡ 0) (typed : Typed f) (signed : (i : ℕ) → mag (get_or vs i (pos 0)) < 2 ^ 31) (first : n ≤ length ps) (second : n ≤ length ws) where
  abbrev W : List ℕ
  W = record_bytes layout (kept_fields layout f) n os vs

  abbrev S : List ℕ
  S = bytes_after to layout f logged os vs n

  abbrev T : List ℕ
  T = drop (0 + length W) to

  stands : S ≡ W ++ T
  unfolding bytes_after
  stands =
      let a = allowed layout f logged os vs n (length to) may in
      rw may (sets-eq W to 0 (omega (arith, a.3, record-long layout f n os vs)))

  counted : place_of layout 9 < length W
  unfolding record_length
  counted = omega (arith, record-long layout f n os vs)

  whole : extent_of layout W ≤ length W
  whole = rw (count-back layout f n os vs) (omega (arith, record-long layout f n os vs))

  right : record_refusal layout logged W ≡ 0
  right =
      let a = allowed layout f logged os vs n (length to) may in
      let h = none-of-three n (length os) (length vs) a.1 in
      accepted layout logged W (record { layout-small = a.0; counted = counted; whole = whole; fields = rw (record-fields layout f n os vs typed, ordinals_back layout f n os vs h.1) a.2 })

  count-read : values_counted layout S ≡ n
  count-read = ap (values_counted layout) stands ∙ count_same layout W T counted ∙ count-back layout f n os vs

  fields_read : fields_at layout S ≡ kept_fields layout f
  fields_read = ap (fields_at layout) stands ∙ fields-same layout W T counted ∙ record-fields layout f n os vs typed

  ordinals-read : ordinals_at layout S ≡ take n os
  ordinals-read =
      let a = allowed layout f logged os vs n (length to) may in
      let h = none-of-three n (length os) (length vs) a.1 in
      ap (ordinals_at layout) stands ∙ ordinals-same layout W T counted whole ∙ ordinals_back layout f n os vs h.1

  values-read : values_at layout S ≡ take n vs
  values-read =
      let a = allowed layout f logged os vs n (length to) may in
      let h = none-of-three n (length os) (length vs) a.1 in
      ap (values_at layout) stands ∙ values_same layout W T counted whole ∙ values_back layout f n os vs h.2 signed

  no-refusal : read_refusal layout logged S (length ps) (length ws) ≡ 0
  no-refusal =
      lists-long
      layout
      logged
      S
      ps
      ws
      (ap (record_refusal layout logged) stands ∙ refusal-more layout logged W T right)
      (rw (count-read, le-ltb (length ps) n first, le-ltb (length ws) n second))

  record-read : read_of layout logged S (length ps) (length ws) ≡ record { number = 0; length = record_length layout n; count = n; fields = kept_fields layout f }
  record-read = sym (after-success layout logged S ps ws no-refusal).0 ∙ rw (count-read, fields_read)

  ordinals-after : ordinals_after layout logged S ps ws ≡ sets ps 0 (take n os)
  ordinals-after = sym (after-success layout logged S ps ws no-refusal).1 ∙ ap (sets ps 0) ordinals-read

  values-after : values_after layout logged S ps ws ≡ sets ws 0 (take n vs)
  values-after = sym (after-success layout logged S ps ws no-refusal).2 ∙ ap (sets ws 0) values-read

pub reads-back : ReadsBack
reads-back = record { record_back = record-read; ordinals_back = ordinals-after; values_back = values-after }
