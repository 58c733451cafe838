-- The fields of a record are the parts that it consists of: each is read where the part before it ends. Assumes nothing.
use mathlib.Core.Path.{◌≡◌, refl, sym, ap, subst, ◌∙◌}
use mathlib.Core.List.{List, [], ◌∷◌, ◌++◌, append_assoc}
use Prim.Native.Nat.{ℕ, zero, suc, ◌+◌, ◌-◌, ◌*◌, ◌≤◌}
use native.Mathlib.Omega.{arith}
use native.Mathlib.Nat.{add-zero}
use lib.ListN.{length, get_or, take, drop, length-append}
use lib.Seq.{drop-append_seam, take-append_seam, get_or-append_seam, drop-drop}
use Rattle.wire.specs.Parts.{joined}
use Rattle.wire.specs.Bytes.{le_of, number_in, signed_of}
use Rattle.records.specs.Layout.{layout}
use Rattle.records.specs.Places.{field_at, id_of}
use Rattle.views.specs.Fields.{text_after, bytes_at, part_of, device_of, element_of, entry_of, process_data_of, property_of, presentation_of}
use Rattle.division.specs.Written.{sized, dvc, det, dpd, dpt, dvp}
use Rattle.claims.specs.Parts.{FieldsAreParts}

-- parts one after the other, and more
onto : List (List ℕ) → List ℕ → List ℕ
onto [] s = s
onto (b ∷ bs) s = b ++ onto bs s

joined-onto : (bs : List (List ℕ)) (s : List ℕ) → joined bs ++ s ≡ onto bs s
unfolding onto
joined-onto [] s = refl
joined-onto (b ∷ bs) s = append_assoc b (joined bs) s ∙ ap (λ (l : List ℕ). b ++ l) (joined-onto bs s)

-- from place n on the pool is these parts, and then s
record At (p : List ℕ) (n : ℕ) (bs : List (List ℕ)) (s : List ℕ) : Type 0 where
  front : List ℕ
  is : p ≡ front ++ onto bs s
  long : n ≡ length front

begins : (before after : List ℕ) (bs : List (List ℕ)) → At (before ++ (joined bs ++ after)) (length before) bs after
begins before after bs = record { front = before; is = ap (λ (l : List ℕ). before ++ l) (joined-onto bs after); long = refl }

-- what follows a part
past : {p : List ℕ} {n : ℕ} {b : List ℕ} {bs : List (List ℕ)} {s : List ℕ} → At p n (b ∷ bs) s → At p (n + length b) bs s
unfolding onto
past {b = b} {bs} {s} a =
    record { front = a.front ++ b; is = a.is ∙ sym (append_assoc a.front b (onto bs s)); long = rw (a.long, length-append a.front b) }

past-fixed : {p : List ℕ} {n : ℕ} {b : List ℕ} {bs : List (List ℕ)} {s : List ℕ} (w : ℕ) → length b ≡ w → At p n (b ∷ bs) s → At p (n + w) bs s
past-fixed {p} {n} {b} {bs} {s} w l a = subst (λ (k : ℕ). At p (n + k) bs s) l (past a)

-- what is read of a part
rest : {p : List ℕ} {n : ℕ} {bs : List (List ℕ)} {s : List ℕ} → At p n bs s → drop n p ≡ onto bs s
rest {bs = bs} {s} a = rw (a.is, a.long) (drop-append_seam a.front (onto bs s))

length-byte : {p : List ℕ} {n x : ℕ} {t : List ℕ} {bs : List (List ℕ)} {s : List ℕ} → At p n ((x ∷ t) ∷ bs) s → get_or p n 0 ≡ x
unfolding onto
length-byte {x = x} {t} {bs} {s} a = rw (a.is, a.long) (get_or-append_seam a.front x (t ++ onto bs s) 0)

past-text : {p : List ℕ} {n : ℕ} (t : List ℕ) {bs : List (List ℕ)} {s : List ℕ} → At p n ((length t ∷ t) ∷ bs) s → At p (n + 1 + get_or p n 0) bs s
past-text {p} {n} t {bs} {s} a = subst (λ (k : ℕ). At p k bs s) (reaches (get_or p n 0) (length-byte a)) (past a)
  where
    reaches : (x : ℕ) → x ≡ length t → n + suc (length t) ≡ n + 1 + x
    reaches x e = omega arith

number-at : {p : List ℕ} {n : ℕ} {b : List ℕ} {bs : List (List ℕ)} {s : List ℕ} (w : ℕ) → length b ≡ w → At p n (b ∷ bs) s → number_in w p n ≡ le_of b
unfolding number_in onto
number-at {b = b} {bs} {s} w l a = rw (rest a, ← l, take-append_seam b (onto bs s))

byte_at : {p : List ℕ} {n : ℕ} {b : List ℕ} {bs : List (List ℕ)} {s : List ℕ} → length b ≡ 1 → At p n (b ∷ bs) s → get_or p n 0 ≡ le_of b
unfolding le_of
byte_at {b = []} l a = absurd (let z : 0 ≡ 1 = l in omega arith)
byte_at {b = x ∷ []} l a = length-byte a ∙ sym (add-zero x)
byte_at {b = x ∷ y ∷ b} l a = absurd (let z : suc (suc (length b)) ≡ 1 = l in omega arith)

part_at : {p : List ℕ} {n : ℕ} {b : List ℕ} {bs : List (List ℕ)} {s : List ℕ} (m : ℕ) → m ≡ n + length b → At p n (b ∷ bs) s → part_of p (record { from = n; to = m }) ≡ b
unfolding onto
part_at {n = n} {b} {bs} {s} m e a =
    let k : m - n ≡ length b = omega (arith, e) in
    rw (k, rest a, take-append_seam b (onto bs s))

split : {p : List ℕ} {n x : ℕ} {t : List ℕ} {bs : List (List ℕ)} {s : List ℕ} → At p n ((x ∷ t) ∷ bs) s → At p n ((x ∷ []) ∷ t ∷ bs) s
unfolding onto
split a = record { front = a.front; is = a.is; long = a.long }

text_at : {p : List ℕ} {n : ℕ} (t : List ℕ) {bs : List (List ℕ)} {s : List ℕ} → At p n ((length t ∷ t) ∷ bs) s → part_of p (text_after p n) ≡ t
text_at {p} {n} t a = part_at (n + 1 + get_or p n 0) (ap (λ (k : ℕ). n + 1 + k) (length-byte a)) (past (split a))

label_at : {p : List ℕ} {n : ℕ} {b : List ℕ} {bs : List (List ℕ)} {s : List ℕ} (w : ℕ) → length b ≡ w → At p n (b ∷ bs) s → part_of p (bytes_at w n) ≡ b
label_at {n = n} w l a = part_at (n + w) (ap (λ (k : ℕ). n + k) (sym l)) a

-- an entry of a list
two-of : (l s : List ℕ) → 2 ≤ length l → take 2 (l ++ s) ≡ take 2 l
two-of [] s h = absurd (omega (arith, h))
two-of (a ∷ []) s h = absurd (let z : 2 ≤ 1 = h in omega arith)
two-of (a ∷ b ∷ l) s h = refl

pair-in : (l s : List ℕ) (i : ℕ) → i + 2 ≤ length l → take 2 (drop i (l ++ s)) ≡ take 2 (drop i l)
pair-in l s zero h = two-of l s h
pair-in [] s (suc i) h = absurd (let z : suc i + 2 ≤ 0 = h in omega arith)
pair-in (a ∷ l) s (suc i) h = pair-in l s i (let z : suc i + 2 ≤ suc (length l) = h in omega arith)

entry-at : {p : List ℕ} {n : ℕ} {l : List ℕ} {bs : List (List ℕ)} {s : List ℕ} (i : ℕ) → 2 * i + 2 ≤ length l → At p n (l ∷ bs) s
    → number_in 2 p (n + 2 * i) ≡ le_of (take 2 (drop (2 * i) l))
unfolding number_in onto
entry-at {p} {n} {l} {bs} {s} i h a =
    ap (λ (q : List ℕ). le_of (take 2 q)) (sym (drop-drop (2 * i) n p) ∙ ap (drop (2 * i)) (rest a)) ∙ ap le_of (pair-in l (onto bs s) (2 * i) h)

pub fields-are-parts : FieldsAreParts
unfolding field_at layout id_of device_of element_of entry_of process_data_of property_of presentation_of
fields-are-parts before r after k (dvc id d v name s st lo x l1 l2 l3 l4 l5 l6 l7 l8) =
    let a0 = past-fixed 3 refl (begins before after ((0x44 ∷ 0x56 ∷ 0x43 ∷ []) ∷ id ∷ sized d ∷ sized v ∷ name ∷ sized s ∷ st ∷ lo ∷ sized x ∷ [])) in
    let a1 = past-fixed 2 l1 a0 in
    let a2 = past-text d a1 in
    let a3 = past-text v a2 in
    let a4 = past-fixed 8 l4 a3 in
    let a5 = past-text s a4 in
    let a6 = past-fixed 7 l6 a5 in
    let a7 = past-fixed 7 l7 a6 in
    (number-at 2 l1 a0, text_at d a1, text_at v a2, number-at 8 l4 a3, text_at s a4, label_at 7 l6 a5, label_at 7 l7 a6, text_at x a7)
fields-are-parts before r after k (det id type d number parent count list l1 l2 l3 l4 l5 l6 l7) =
    let a0 = past-fixed 3 refl (begins before after ((0x44 ∷ 0x45 ∷ 0x54 ∷ []) ∷ id ∷ type ∷ sized d ∷ number ∷ parent ∷ count ∷ list ∷ [])) in
    let a1 = past-fixed 2 l1 a0 in
    let a2 = past-fixed 1 l2 a1 in
    let a3 = past-text d a2 in
    let a4 = past-fixed 2 l4 a3 in
    let a5 = past-fixed 2 l5 a4 in
    let a6 = past-fixed 2 l6 a5 in
    (number-at 2 l1 a0, byte_at l2 a1, text_at d a2, number-at 2 l4 a3, number-at 2 l5 a4, number-at 2 l6 a5, λ n h. entry-at n (omega (arith, l7, h)) a6)
fields-are-parts before r after k (dpd id ddi properties triggers d presentation l1 l2 l3 l4 l5 l6) =
    let a0 = past-fixed 3 refl (begins before after ((0x44 ∷ 0x50 ∷ 0x44 ∷ []) ∷ id ∷ ddi ∷ properties ∷ triggers ∷ sized d ∷ presentation ∷ [])) in
    let a1 = past-fixed 2 l1 a0 in
    let a2 = past-fixed 2 l2 a1 in
    let a3 = past-fixed 1 l3 a2 in
    let a4 = past-fixed 1 l4 a3 in
    let a5 = past-text d a4 in
    (number-at 2 l1 a0, number-at 2 l2 a1, byte_at l3 a2, byte_at l4 a3, text_at d a4, number-at 2 l6 a5)
fields-are-parts before r after k (dpt id ddi value d presentation l1 l2 l3 l4 l5) =
    let a0 = past-fixed 3 refl (begins before after ((0x44 ∷ 0x50 ∷ 0x54 ∷ []) ∷ id ∷ ddi ∷ value ∷ sized d ∷ presentation ∷ [])) in
    let a1 = past-fixed 2 l1 a0 in
    let a2 = past-fixed 2 l2 a1 in
    let a3 = past-fixed 4 l3 a2 in
    let a4 = past-text d a3 in
    (number-at 2 l1 a0, number-at 2 l2 a1, ap (signed_of 4) (number-at 4 l3 a2), text_at d a3, number-at 2 l5 a4)
fields-are-parts before r after k (dvp id offset scale decimals unit l1 l2 l3 l4 l5) =
    let a0 = past-fixed 3 refl (begins before after ((0x44 ∷ 0x56 ∷ 0x50 ∷ []) ∷ id ∷ offset ∷ scale ∷ decimals ∷ sized unit ∷ [])) in
    let a1 = past-fixed 2 l1 a0 in
    let a2 = past-fixed 4 l2 a1 in
    let a3 = past-fixed 4 l3 a2 in
    let a4 = past-fixed 1 l4 a3 in
    (number-at 2 l1 a0, ap (signed_of 4) (number-at 4 l2 a1), number-at 4 l3 a2, byte_at l4 a3, text_at unit a4)
