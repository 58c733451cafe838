-- Which faults the rows of the records give, and in what order. Assumes nothing.
use mathlib.Core.Path.{◌≡◌, refl, sym, ap, ap₂, ◌∙◌, subst}
use mathlib.Core.Bool.{Bool, true, false, ◌&&◌, ◌||◌, and-eq-true_iff}
use mathlib.Core.List.{List, [], ◌∷◌, ◌++◌, Memᴰ}
use mathlib.Core.Logic.{⊎_elim, ◌⊎◌, inl, inr}
use Prim.Native.Nat.{ℕ, zero, suc, ◌+◌, ◌≤◌, ◌<◌}
use native.Mathlib.Nat.{eq-or-lt_of_le}
use native.Mathlib.Omega.{arith}
use borrow.Author.Tests.{ltb-true, leb-true, eqb-true}
use lib.Dec.{eqb, ltb, leb}
use Rattle.faults.specs.Faults.{Fault, fault, Before, Ascending}
use Rattle.faults.specs.Rows.{Row, if_so, up_to, faults_of_rows, in_records, precedes, precedes_all, in_order, Found}

-- ---- one of two tests
or-true : (a b : Bool) → (a || b) ≡ true → (a ≡ true) ⊎ (b ≡ true)
or-true true b e = inl refl
or-true false b e = inr e

-- ---- a fault of one of a row's first m items
record OfRow (n : ℕ) (w : Row) (m : ℕ) (f : Fault) : Type 0 where
  offset : ℕ
  inside : offset < m
  same : f ≡ fault n w.rule (w.first + offset)
  broken : w.breach offset ≡ true

in-if-so : (t : Bool) {f g : Fault} → Memᴰ f (if_so t g) → (t ≡ true) × (f ≡ g)
in-if-so true h = (refl, mathlib.Core.List.Memᴰ.eq_of_singleton h)
in-if-so false h = absurd (mathlib.Core.List.Memᴰ.not-nil h)

to-if-so : {t : Bool} {f g : Fault} → t ≡ true → f ≡ g → Memᴰ f (if_so t g)
to-if-so e s = rw e (mathlib.Core.List.Memᴰ.head s)

-- the last of the items is a breach or not: a fault is of an earlier one, or of that one
earlier-item : {n : ℕ} {w : Row} {m : ℕ} {f : Fault} → OfRow n w m f → OfRow n w (suc m) f
earlier-item r = record { offset = r.offset; inside = omega (arith, r.inside); same = r.same; broken = r.broken }

last-item : (n : ℕ) (w : Row) (m : ℕ) {f : Fault} → (w.breach m ≡ true) × (f ≡ fault n w.rule (w.first + m)) → OfRow n w (suc m) f
last-item n w m r = record { offset = m; inside = omega arith; same = r.1; broken = r.0 }

in-up-to : (n : ℕ) (w : Row) (m : ℕ) {f : Fault} → Memᴰ f (up_to n w m) → OfRow n w m f
unfolding up_to
in-up-to n w zero h = absurd (mathlib.Core.List.Memᴰ.not-nil h)
in-up-to n w (suc m) h =
    ⊎_elim
    (λ l. earlier-item (in-up-to n w m l))
    (λ l. last-item n w m (in-if-so (w.breach m) l))
    (mathlib.Core.List.Memᴰ.append_cases (up_to n w m) h)

to-up-to : (n : ℕ) (w : Row) (m i : ℕ) {f : Fault} → i < m → f ≡ fault n w.rule (w.first + i) → w.breach i ≡ true → Memᴰ f (up_to n w m)
unfolding up_to
to-up-to n w zero i h s b = absurd (omega arith)
to-up-to n w (suc m) i h s b =
    ⊎_elim
    (λ (e : i ≡ m). mathlib.Core.List.Memᴰ.append_right (up_to n w m) (to-if-so (ap w.breach (sym e) ∙ b) (s ∙ ap (λ (j : ℕ). fault n w.rule (w.first + j)) e)))
    (λ (l : i < m). mathlib.Core.List.Memᴰ.append_left _ (to-up-to n w m i l s b))
    (eq-or-lt_of_le (omega arith))

-- ---- a fault of one of a record's rows
in_rows : (n : ℕ) (ws : List Row) {f : Fault} → Memᴰ f (faults_of_rows n ws) → (w : Row) × Memᴰ w ws × OfRow n w w.size f
unfolding faults_of_rows
in_rows n [] h = absurd (mathlib.Core.List.Memᴰ.not-nil h)
in_rows n (w ∷ ws) {f} h =
    ⊎_elim
    (λ (l : Memᴰ f (up_to n w w.size)). (w, mathlib.Core.List.Memᴰ.head refl, in-up-to n w w.size l))
    (λ (l : Memᴰ f (faults_of_rows n ws)). let r = in_rows n ws l in (r.0, mathlib.Core.List.Memᴰ.tail r.1, r.2))
    (mathlib.Core.List.Memᴰ.append_cases (up_to n w w.size) h)

to-rows : (n : ℕ) (ws : List Row) (v : Row) {f : Fault} → Memᴰ v ws → Memᴰ f (up_to n v v.size) → Memᴰ f (faults_of_rows n ws)
unfolding faults_of_rows
to-rows n [] v l h = absurd (mathlib.Core.List.Memᴰ.not-nil l)
to-rows n (w ∷ ws) v {f} l h =
    ⊎_elim
    (λ (e : v ≡ w). mathlib.Core.List.Memᴰ.append_left (faults_of_rows n ws) (rw e at h))
    (λ (m : Memᴰ v ws). mathlib.Core.List.Memᴰ.append_right (up_to n w w.size) (to-rows n ws v m h))
    (mathlib.Core.List.Memᴰ.cases_cons l)

-- so the number tells which record's rows to look in
rows-number : (n : ℕ) (ws : List Row) {f : Fault} → Memᴰ f (faults_of_rows n ws) → f.number ≡ n
rows-number n ws h = ap (λ (f : Fault). f.number) (in_rows n ws h).2.same

-- ---- a fault of one of the records
in-records : (rows : ℕ → List Row) (n : ℕ) {f : Fault} → Memᴰ f (in_records rows n) → (f.number < n) × Memᴰ f (faults_of_rows f.number (rows f.number))
unfolding in_records
in-records rows zero h = absurd (mathlib.Core.List.Memᴰ.not-nil h)
in-records rows (suc n) {f} h =
    ⊎_elim
    (λ (l : Memᴰ f (in_records rows n)). let r = in-records rows n l in (omega (arith, r.0), r.1))
    (λ (l : Memᴰ f (faults_of_rows n (rows n))). let e = rows-number n (rows n) l in (omega arith, subst (λ (r : ℕ). Memᴰ f (faults_of_rows r (rows r))) (sym e) l))
    (mathlib.Core.List.Memᴰ.append_cases (in_records rows n) h)

to-records : (rows : ℕ → List Row) (n r : ℕ) {f : Fault} → r < n → Memᴰ f (faults_of_rows r (rows r)) → Memᴰ f (in_records rows n)
unfolding in_records
to-records rows zero r h l = absurd (omega arith)
to-records rows (suc n) r h l =
    ⊎_elim
    (λ (e : r ≡ n). mathlib.Core.List.Memᴰ.append_right (in_records rows n) (rw e at l))
    (λ (g : r < n). mathlib.Core.List.Memᴰ.append_left (faults_of_rows n (rows n)) (to-records rows n r g l))
    (eq-or-lt_of_le (omega arith))

-- each fault of the list has its row, and each breach of a row has its fault in the list
pub found : (rows : ℕ → List Row) (n : ℕ) (f : Fault) → Memᴰ f (in_records rows n) → Found rows n f
found rows n f h =
    let r = in-records rows n h in
    let s = in_rows f.number (rows f.number) r.1 in
    record {
      row = s.0;
      offset = s.2.offset;
      below = r.0;
      listed = s.1;
      inside = s.2.inside;
      same_rule = ap (λ (g : Fault). g.rule) s.2.same;
      same_item = ap (λ (g : Fault). g.item) s.2.same;
      broken = s.2.broken;
    }

pub listed : (rows : ℕ → List Row) (n : ℕ) (f : Fault) → Found rows n f → Memᴰ f (in_records rows n)
listed rows n f h =
    let same : f ≡ fault f.number h.row.rule (h.row.first + h.offset) = ap₂ (fault f.number) h.same_rule h.same_item in
    to-records rows n f.number h.below
    (to-rows f.number (rows f.number) h.row h.listed
    (to-up-to f.number h.row h.row.size h.offset h.inside same h.broken))

-- ---- the order

-- two lists in order, and all of the first before all of the second
ascending-append : (s t : List Fault) → Ascending s → Ascending t → ((f g : Fault) → Memᴰ f s → Memᴰ g t → Before f g) → Ascending (s ++ t)
ascending-append [] t p q h = q
ascending-append (f ∷ s) t p q h = (first-before, ascending-append s t p.1 q (λ x y l m. h x y (mathlib.Core.List.Memᴰ.tail l) m))
  where
    first-before : (g : Fault) → Memᴰ g (s ++ t) → Before f g
    first-before g m = ⊎_elim (p.0 g) (h f g (mathlib.Core.List.Memᴰ.head refl)) (mathlib.Core.List.Memᴰ.append_cases s m)

ascending-if-so : (t : Bool) (f : Fault) → Ascending (if_so t f)
ascending-if-so true f = (λ g m. absurd (mathlib.Core.List.Memᴰ.not-nil m), tt)
ascending-if-so false f = tt

-- a later item of a row
later-item : (n : ℕ) (w : Row) (i j : ℕ) {f g : Fault} → i < j → f ≡ fault n w.rule (w.first + i) → g ≡ fault n w.rule (w.first + j) → Before f g
later-item n w i j h p q = rw (p, q) (inr (refl, inr (refl, omega arith)))

ascending-up-to : (n : ℕ) (w : Row) (m : ℕ) → Ascending (up_to n w m)
unfolding up_to
ascending-up-to n w zero = tt
ascending-up-to n w (suc m) =
    ascending-append (up_to n w m) (if_so (w.breach m) (fault n w.rule (w.first + m))) (ascending-up-to n w m) (ascending-if-so (w.breach m) _)
    (λ f g p q. let r = in-up-to n w m p in later-item n w r.offset m r.inside r.same (in-if-so (w.breach m) q).1)

-- an item of a later row: of a later rule, or of later items of the same
precedes-means : (w v : Row) → precedes w v ≡ true → (w.rule < v.rule) ⊎ ((w.rule ≡ v.rule) × (w.first + w.size ≤ v.first))
precedes-means w v e = ⊎_elim (λ l. inl (ltb-true w.rule v.rule l)) (λ l. inr (same_rule l)) (or-true (ltb w.rule v.rule) _ e)
  where
    same_rule : (eqb w.rule v.rule && leb (w.first + w.size) v.first) ≡ true → (w.rule ≡ v.rule) × (w.first + w.size ≤ v.first)
    same_rule l =
        let b = (and-eq-true_iff (eqb w.rule v.rule) _).0 l in
        (eqb-true w.rule v.rule b.0, leb-true (w.first + w.size) v.first b.1)

later-row : (n : ℕ) (w v : Row) {f g : Fault} → precedes w v ≡ true → OfRow n w w.size f → OfRow n v v.size g → Before f g
later-row n w v e p q =
    rw (p.same, q.same)
    (inr (refl, ⊎_elim (λ l. inl l) (λ l. inr (l.0, omega (arith, p.inside, l.1))) (precedes-means w v e)))

precedes-each : (w : Row) (vs : List Row) {v : Row} → precedes_all w vs ≡ true → Memᴰ v vs → precedes w v ≡ true
precedes-each w [] e l = absurd (mathlib.Core.List.Memᴰ.not-nil l)
precedes-each w (u ∷ vs) {v} e l =
    let b = (and-eq-true_iff (precedes w u) (precedes_all w vs)).0 e in
    ⊎_elim (λ (s : v ≡ u). ap (precedes w) s ∙ b.0) (λ (m : Memᴰ v vs). precedes-each w vs b.1 m) (mathlib.Core.List.Memᴰ.cases_cons l)

ascending-rows : (n : ℕ) (ws : List Row) → in_order ws ≡ true → Ascending (faults_of_rows n ws)
unfolding faults_of_rows
ascending-rows n [] e = tt
ascending-rows n (w ∷ ws) e =
    let b = (and-eq-true_iff (precedes_all w ws) (in_order ws)).0 e in
    ascending-append (up_to n w w.size) (faults_of_rows n ws) (ascending-up-to n w w.size) (ascending-rows n ws b.1)
    (λ f g p q. let r = in_rows n ws q in later-row n w r.0 (precedes-each w ws b.0 r.1) (in-up-to n w w.size p) r.2)

-- records follow by their numbers, so only the rows of each need to be in order
pub ascending : (rows : ℕ → List Row) (n : ℕ) → ((r : ℕ) → in_order (rows r) ≡ true) → Ascending (in_records rows n)
unfolding in_records
ascending rows zero e = tt
ascending rows (suc n) e =
    ascending-append (in_records rows n) (faults_of_rows n (rows n)) (ascending rows n e) (ascending-rows n (rows n) (e n))
    (λ f g p q. inl (omega (arith, (in-records rows n p).0, rows-number n (rows n) q)))
