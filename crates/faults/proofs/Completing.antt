-- The IDs behind written faults. Assumes nothing.
use mathlib.Core.Path.{◌≡◌, refl, sym, ap, ◌∙◌}
use mathlib.Core.List.Memᴰ
use mathlib.Core.List.{List, [], ◌∷◌, ◌++◌, map, append-nil, append_assoc, Memᴰ}
use mathlib.Core.Logic.{⊎_elim}
use Prim.Native.Nat.{ℕ, zero, suc, min, ◌+◌, ◌-◌, ◌*◌, ◌/◌, ◌≤◌, ◌<◌}
use native.Mathlib.Nat.{zero-add, suc-add}
use native.Mathlib.Omega.{arith}
use lib.ListN.{length, get_or, set, take, drop, length-append, length-take}
use Rattle.std.proofs.lemmas.List.{get_or-take, length-take-le}
use lib.Seq.{take-append_seam, drop-append_seam, sets, sets-eq, length-sets, get_or_at, get_or-set_other}
use Rattle.records.specs.Places.{id_of, parent_id_of}
use Rattle.pool.specs.Reading.{Entry, no_entry}
use Rattle.pool.specs.Walk.{entries_of}
use Rattle.pool.proofs.Starts.{entry-at}
use Rattle.faults.specs.Faults.{Fault, FaultEntry, record_id, record_parent, entry_for, numbers, width, flat, written}
use Rattle.faults.specs.Emission.{unnamed}
use Rattle.faults.specs.Completing.{ids_of, named_from, Below, Laid, Unnamed}

-- ---- the IDs of a listed record stand in the pool

pub ids-read : (p starts : List ℕ) (number : ℕ) → (number ≡ 0 → ⊥) → number < length starts
    → (id_of p (get_or starts (number - 1) 0) ≡ record_id (entries_of p starts) number) × (parent_id_of p (get_or starts (number - 1) 0) ≡ record_parent (entries_of p starts) number)
ids-read p starts zero some l = absurd (some refl)
ids-read p starts (suc i) some l =
    let same : suc i - 1 ≡ i = omega arith in
    let entry = sym (entry-at p starts no_entry i l) in
    (rw same (ap (λ (e : Entry). e.id) entry), rw same (ap (λ (e : Entry). e.parent) entry))

-- two stores, one behind the other
pub ids-stored : (b ids : List ℕ) (at x y : ℕ) → x ∷ y ∷ [] ≡ ids → set (set b (at + 3) x) (at + 4) y ≡ sets b (at + 3) ids
ids-stored b ids at x y e =
    let next : at + 4 ≡ suc (at + 3) = omega arith in
    ap (λ (j : ℕ). set (set b (at + 3) x) j y) next ∙ ap (sets b (at + 3)) e

-- ---- a run of stores behind a front

set_past : (front xs : List ℕ) (k x : ℕ) → set (front ++ xs) (length front + k) x ≡ front ++ set xs k x
set_past [] xs k x = ap (λ (j : ℕ). set xs j x) (zero-add k)
set_past (y ∷ front) xs k x =
    ap (λ (j : ℕ). set (y ∷ (front ++ xs)) j x) (suc-add (length front) k) ∙ ap (λ (l : List ℕ). y ∷ l) (set_past front xs k x)

sets-past : (ys front xs : List ℕ) (k : ℕ) → sets (front ++ xs) (length front + k) ys ≡ front ++ sets xs k ys
sets-past [] front xs k = refl
sets-past (y ∷ ys) front xs k =
    let next : suc (length front + k) ≡ length front + suc k = omega arith in
    ap (λ (l : List ℕ). sets l (suc (length front + k)) ys) (set_past front xs k y)
    ∙ ap (λ (j : ℕ). sets (front ++ set xs k y) j ys) next
    ∙ sets-past ys front (set xs k y) (suc k)

-- the two IDs take the place of the zeros
ids-laid : (front : List ℕ) (n u i : ℕ) (a b : ℕ) (tail : List ℕ) (k : ℕ) → length front ≡ k * width
    → sets (front ++ n ∷ u ∷ i ∷ 0 ∷ 0 ∷ tail) (k * width + 3) (a ∷ b ∷ []) ≡ front ++ n ∷ u ∷ i ∷ a ∷ b ∷ tail
ids-laid front n u i a b tail k l =
    ap (λ (j : ℕ). sets (front ++ n ∷ u ∷ i ∷ 0 ∷ 0 ∷ tail) (j + 3) (a ∷ b ∷ [])) (sym l)
    ∙ sets-past (a ∷ b ∷ []) front (n ∷ u ∷ i ∷ 0 ∷ 0 ∷ tail) 3

-- ---- one fault after the other

-- the IDs of the faults from fault k on, which stand behind what is already complete
named-behind : (es : List Entry) (fs : List Fault) (front rest : List ℕ) (k : ℕ) → length front ≡ k * width
    → named_from es k (length fs) (front ++ (flat (map unnamed fs) ++ rest)) ≡ front ++ (flat (map (entry_for es) fs) ++ rest)
unfolding named_from
named-behind es [] front rest k l = refl
named-behind es (f ∷ fs) front rest k l =
    let tail : List ℕ = flat (map unnamed fs) ++ rest in
    let entry : List ℕ = numbers (entry_for es f) in
    let here : get_or (front ++ (numbers (unnamed f) ++ tail)) (k * width) 0 ≡ f.number = get_or_at front f.number _ 0 (k * width) l in
    let long : length (front ++ entry) ≡ (k + 1) * width = let h = length-append front entry in omega arith in
    ap (λ (n : ℕ). named_from es (k + 1) (length fs) (sets (front ++ (numbers (unnamed f) ++ tail)) (k * width + 3) (ids_of es n))) here
    ∙ ap (named_from es (k + 1) (length fs)) (ids-laid front f.number f.rule f.item (record_id es f.number) (record_parent es f.number) tail k l ∙ sym (append_assoc front entry tail))
    ∙ named-behind es fs (front ++ entry) rest (k + 1) long
    ∙ append_assoc front entry (flat (map (entry_for es) fs) ++ rest)

-- ---- what a check has written

pub flat-long : (es : List FaultEntry) → length (flat es) ≡ width * length es
flat-long [] = refl
flat-long (e ∷ es) = let h = flat-long es in omega arith

pub map-long : (f : Fault → FaultEntry) (fs : List Fault) → length (map f fs) ≡ length fs
map-long f [] = refl
map-long f (x ∷ fs) = ap suc (map-long f fs)

take-map : (f : Fault → FaultEntry) (n : ℕ) (fs : List Fault) → take n (map f fs) ≡ map f (take n fs)
take-map f zero fs = refl
take-map f (suc n) [] = refl
take-map f (suc n) (x ∷ fs) = ap (λ (l : List FaultEntry). f x ∷ l) (take-map f n fs)

module _ (before : List ℕ) (fs : List Fault) where
  -- the faults that fit
  abbrev written-faults : List Fault
  written-faults = take (length before / width) fs

  fits : width * length written-faults ≤ length before
  fits = simp length-take (omega arith)

  -- how long they are
  written-long-as : (f : Fault → FaultEntry) → length (flat (map f written-faults)) ≡ width * length written-faults
  written-long-as f = flat-long (map f written-faults) ∙ ap (λ (n : ℕ). width * n) (map-long f written-faults)

  -- they are the front of the buffer, whatever is said of them; the rest is as it was
  fronted : (f : Fault → FaultEntry) → written before (map f fs) ≡ flat (map f written-faults) ++ drop (width * length written-faults) before
  unfolding written
  fronted f =
      let long = written-long-as f in
      ap (λ (l : List FaultEntry). sets before 0 (flat l)) (take-map f (length before / width) fs)
      ∙ sets-eq (flat (map f written-faults)) before 0 (omega (arith, long, fits))
      ∙ rw (zero-add (length (flat (map f written-faults))), long)

written-long : (before : List ℕ) (es : List FaultEntry) → length (written before es) ≡ length before
unfolding written
written-long before es = length-sets before 0 (flat (take (length before / width) es))

-- so many of the faults that were found are written: all of them, or as many as there is room for
pub fitting : (before : List ℕ) (fs : List Fault) (b : List ℕ) (found : ℕ) → Laid before fs b found → min found (length b / width) ≡ length (written-faults before fs)
fitting before fs b found l =
    let long : length b ≡ length before = ap length l.0 ∙ written-long before (map unnamed fs) in
    let room : length b / width ≡ length before / width = ap (λ (n : ℕ). n / width) long in
    omega (arith, room, l.1, length-take (length before / width) fs)

-- the part of the buffer that holds them, and what is behind it
pub part-of : (before : List ℕ) (fs : List Fault) (b : List ℕ) (n : ℕ) → b ≡ written before (map unnamed fs) → n ≡ length (written-faults before fs)
    → (take (n * width) b ≡ flat (map unnamed (written-faults before fs))) × (drop (n * width) b ≡ drop (width * length (written-faults before fs)) before)
part-of before fs b n l e =
    let xs = flat (map unnamed (written-faults before fs)) in
    let ys = drop (width * length (written-faults before fs)) before in
    let laid : b ≡ xs ++ ys = l ∙ fronted before fs unnamed in
    let far : n * width ≡ length xs = omega (arith, e, written-long-as before fs unnamed) in
    rw (laid, far) (take-append_seam xs ys, drop-append_seam xs ys)

pub completed : (es : List Entry) (before : List ℕ) (fs : List Fault) (b : List ℕ) (n : ℕ) → b ≡ written before (map unnamed fs) → n ≡ length (written-faults before fs)
    → named_from es 0 (length (take (n * width) b) / width) (take (n * width) b) ++ drop (n * width) b ≡ written before (map (entry_for es) fs)
completed es before fs b n l e =
    let part = part-of before fs b n l e in
    let ws = written-faults before fs in
    let many : length (flat (map unnamed ws)) / width ≡ length ws = omega (arith, written-long-as before fs unnamed) in
    rw (part.0, part.1, many)
    (ap (λ (xs : List ℕ). named_from es 0 (length ws) xs ++ drop (width * length ws) before) (sym (append-nil (flat (map unnamed ws))))
    ∙ ap (λ (xs : List ℕ). xs ++ drop (width * length ws) before) (named-behind es ws [] [] 0 refl ∙ append-nil (flat (map (entry_for es) ws)))
    ∙ sym (fronted before fs (entry_for es)))

-- ---- the records of the faults that a buffer holds

-- fault k of a list starts at its place
starts_with : (fs : List Fault) (rest : List ℕ) (k : ℕ) → k < length fs → (f : Fault) × Memᴰ f fs × (get_or (flat (map unnamed fs) ++ rest) (k * width) 0 ≡ f.number)
starts_with [] rest k h = absurd (omega arith)
starts_with (f ∷ fs) rest zero h = (f, Memᴰ.head refl, refl)
starts_with (f ∷ fs) rest (suc k) h =
    let r = starts_with fs rest k (omega arith) in
    let past : suc k * width ≡ suc (suc (suc (suc (suc (k * width))))) = omega arith in
    (r.0, Memᴰ.tail r.1, rw past r.2)

in-front : (n : ℕ) (fs : List Fault) {f : Fault} → Memᴰ f (take n fs) → Memᴰ f fs
in-front zero fs h = absurd (Memᴰ.not-nil h)
in-front (suc n) [] h = absurd (Memᴰ.not-nil h)
in-front (suc n) (x ∷ fs) h = ⊎_elim (λ e. Memᴰ.head e) (λ m. Memᴰ.tail (in-front n fs m)) (Memᴰ.cases_cons h)

-- so many faults can be completed
pub fitting-below : (limit : ℕ) (b : List ℕ) (found n : ℕ) (u : Unnamed limit b found) → n ≡ length (take (length u.before / width) u.faults) → Below limit b n
fitting-below limit b found n u e =
    let fs = take (length u.before / width) u.faults in
    let long : length b ≡ length u.before = ap length u.laid.0 ∙ written-long u.before (map unnamed u.faults) in
    record {
      fits = omega (arith, long, e, fits u.before u.faults);
      listed = λ k h. let r = starts_with fs (drop (width * length fs) u.before) k (omega (arith, h, e)) in
          rw (ap (λ (l : List ℕ). get_or l (k * width) 0) (u.laid.0 ∙ fronted u.before u.faults unnamed) ∙ r.2) (u.listed r.0 (in-front (length u.before / width) u.faults r.1));
    }

-- so can those of the part that holds them
pub below-in-part : (limit : ℕ) (b : List ℕ) (n : ℕ) → Below limit b n → Below limit (take (n * width) b) (length (take (n * width) b) / width)
below-in-part limit b n h =
    let long : length (take (n * width) b) ≡ n * width = length-take-le (n * width) b h.fits in
    record {
      fits = omega arith;
      listed = λ k l. rw (get_or-take (n * width) b (k * width) 0 (omega (arith, long, l))) (h.listed k (omega (arith, long, l)));
    }

-- two IDs that are written leave the faults' records as they are
pub below_next : (limit : ℕ) (b : List ℕ) (n i x y : ℕ) → Below limit b n → Below limit (sets b (i * width + 3) (x ∷ y ∷ [])) n
below_next limit b n i x y h = record {
  fits = rw (length-sets b (i * width + 3) (x ∷ y ∷ [])) h.fits;
  listed = λ k l. rw (get_or-set_other (set b (i * width + 3) x) (suc (i * width + 3)) (k * width) y 0 (λ e. omega (arith, e)), get_or-set_other b (i * width + 3) (k * width) x 0 (λ e. omega (arith, e))) (h.listed k l);
}

-- ---- one turn of the loop

pub named_none : (es : List Entry) (k : ℕ) (b : List ℕ) → named_from es k 0 b ≡ b
unfolding named_from
named_none es k b = refl

pub named-next : (es : List Entry) (k n : ℕ) (b : List ℕ) → k < n → named_from es k (n - k) b ≡ named_from es (k + 1) (n - (k + 1)) (sets b (k * width + 3) (ids_of es (get_or b (k * width) 0)))
unfolding named_from
named-next es k n b h = let more : n - k ≡ suc (n - (k + 1)) = omega arith in rw more
