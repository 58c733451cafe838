-- Faults written one after the other: what is written and counted adds up to the whole list. Assumes nothing.
use mathlib.Core.Path.{◌≡◌, refl, sym, ap, ◌∙◌}
use mathlib.Core.Bool.{Bool, true, false, cond}
use mathlib.Core.List.{List, [], ◌∷◌, ◌++◌, map, append-nil, append_assoc}
use Prim.Native.Nat.{ℕ, zero, suc, ◌+◌, ◌-◌, ◌*◌, ◌/◌, ◌≤◌, ◌<◌}
use native.Mathlib.Decide.{dec_lt}
use mathlib.Core.Logic.{⊎_elim}
use native.Mathlib.Nat.{add-zero, eq-or-lt_of_le}
use native.Mathlib.Numerals.{add-one}
use native.Mathlib.Omega.{arith}
use borrow.Author.Tests.{le-leb, lt-leb}
use lib.Dec.{leb}
use lib.ListN.{length, set, take, length-append}
use lib.Seq.{sets, length-sets, take-nil}
use Rattle.faults.specs.Faults.{Fault, fault, FaultEntry, numbers, width, flat, written}
use Rattle.faults.specs.Rows.{Row, one, many, if_so, up_to, faults_of_rows, in_records, Alike, AllAlike}
use Rattle.faults.specs.Emission.{unnamed, put_at, puts, Emits, Puts}

-- ---- one list of faults behind another

-- the second list starts where the first left the buffer and the count
puts-append : (xs ys : List Fault) (b : List ℕ) (k : ℕ) → puts b k (xs ++ ys) ≡ puts (puts b k xs) (k + length xs) ys
unfolding puts
puts-append [] ys b k = rw (add-zero k)
puts-append (f ∷ xs) ys b k =
    puts-append xs ys (put_at b k f) (k + 1) ∙ ap (λ (j : ℕ). puts (puts (put_at b k f) (k + 1) xs) j ys) (omega arith)

pub emits_none : {b : List ℕ} {k : ℕ} → Emits b k [] b k
unfolding puts
emits_none {b} {k} = record { laid = refl; counted = omega arith }

pub emits_then : {b₀ b₁ b₂ : List ℕ} {k₀ k₁ k₂ : ℕ} {xs ys : List Fault} → Emits b₀ k₀ xs b₁ k₁ → Emits b₁ k₁ ys b₂ k₂ → Emits b₀ k₀ (xs ++ ys) b₂ k₂
emits_then {b₀} {b₁} {b₂} {k₀} {k₁} {k₂} {xs} {ys} p q =
    record {
      laid = q.laid ∙ rw (p.laid, p.counted) (sym (puts-append xs ys b₀ k₀));
      counted = omega (arith, p.counted, q.counted, length-append xs ys);
    }

-- the list may be said in another way
pub emits-same : {b₀ b : List ℕ} {k₀ k : ℕ} {xs ys : List Fault} → xs ≡ ys → Emits b₀ k₀ xs b k → Emits b₀ k₀ ys b k
emits-same e p = rw (← e) p

-- ---- the faults of a row, of a record's rows and of the records, one more at a time

up-to-more : (n : ℕ) (w : Row) (m : ℕ) → up_to n w (m + 1) ≡ up_to n w m ++ if_so (w.breach m) (fault n w.rule (w.first + m))
unfolding up_to
up-to-more n w m = rw (add-one m)

pub emits_start : {b : List ℕ} {k : ℕ} (n : ℕ) (w : Row) → Emits b k (up_to n w 0) b k
unfolding up_to
emits_start n w = emits_none

pub emits-turn : {b₀ b₁ b₂ : List ℕ} {k₀ k₁ k₂ : ℕ} (n : ℕ) (w : Row) (m : ℕ) → Emits b₀ k₀ (up_to n w m) b₁ k₁
    → Emits b₁ k₁ (if_so (w.breach m) (fault n w.rule (w.first + m))) b₂ k₂ → Emits b₀ k₀ (up_to n w (m + 1)) b₂ k₂
emits-turn n w m p q = emits-same (sym (up-to-more n w m)) (emits_then p q)

records-more : (rows : ℕ → List Row) (n : ℕ) → in_records rows (n + 1) ≡ in_records rows n ++ faults_of_rows n (rows n)
unfolding in_records
records-more rows n = rw (add-one n)

pub emits-record : {b₀ b₁ b₂ : List ℕ} {k₀ k₁ k₂ : ℕ} (rows : ℕ → List Row) (n : ℕ) → Emits b₀ k₀ (in_records rows n) b₁ k₁
    → Emits b₁ k₁ (faults_of_rows n (rows n)) b₂ k₂ → Emits b₀ k₀ (in_records rows (n + 1)) b₂ k₂
emits-record rows n p q = emits-same (sym (records-more rows n)) (emits_then p q)

-- the rows' faults by the rows, for callers that write one row after the other
pub rows-nil : (n : ℕ) → faults_of_rows n [] ≡ []
unfolding faults_of_rows
rows-nil n = refl

pub rows-cons : (n : ℕ) (w : Row) (ws : List Row) → faults_of_rows n (w ∷ ws) ≡ up_to n w w.size ++ faults_of_rows n ws
unfolding faults_of_rows
rows-cons n w ws = refl

rows_append : (n : ℕ) (xs ys : List Row) → faults_of_rows n (xs ++ ys) ≡ faults_of_rows n xs ++ faults_of_rows n ys
unfolding faults_of_rows
rows_append n [] ys = refl
rows_append n (w ∷ ws) ys = rw (rows_append n ws ys) (sym (append_assoc (up_to n w w.size) (faults_of_rows n ws) (faults_of_rows n ys)))

-- a row of one item has no offset to add
pub one-row : (n u k : ℕ) (b : Bool) → up_to n (one u k b) 1 ≡ if_so b (fault n u k)
unfolding up_to
one-row n u k b = rw (add-zero k)

-- tests that agree give the same faults
up-to-same : (n u k i j : ℕ) (s t : ℕ → Bool) (m : ℕ) → ((a : ℕ) → a < m → s a ≡ t a) → up_to n (many u k i s) m ≡ up_to n (many u k j t) m
unfolding up_to
up-to-same n u k i j s t zero h = refl
up-to-same n u k i j s t (suc m) h =
    rw (up-to-same n u k i j s t m (λ (a : ℕ) (l : a < m). h a (omega arith)), h m (omega arith))

-- one group of rows behind another
pub puts_then : {n : ℕ} {xs ys : List Row} {b₀ b₁ b₂ : List ℕ} {k₀ k₁ k₂ : ℕ} → Puts n xs b₀ k₀ b₁ k₁ → Puts n ys b₁ k₁ b₂ k₂
    → Puts n (xs ++ ys) b₀ k₀ b₂ k₂
puts_then {n} {xs} {ys} p q = record { emits = emits-same (sym (rows_append n xs ys)) (emits_then p.emits q.emits) }

pub puts_none : {n : ℕ} {b : List ℕ} {k : ℕ} → Puts n [] b k b k
puts_none {n} = record { emits = emits-same (sym (rows-nil n)) emits_none }

-- a row of one item, by its test
pub puts_one : {n u k : ℕ} (t : Bool) {b₀ b : List ℕ} {k₀ k₁ : ℕ} → Emits b₀ k₀ (if_so t (fault n u k)) b k₁ → Puts n (one u k t ∷ []) b₀ k₀ b k₁
puts_one {n} {u} {k} t p =
    record { emits = emits-same (sym (rows-cons n (one u k t) [] ∙ rw (rows-nil n, one-row n u k t) (append-nil (if_so t (fault n u k))))) p }

row-faults : (n : ℕ) (w : Row) → faults_of_rows n (w ∷ []) ≡ up_to n w w.size
row-faults n w = rows-cons n w [] ∙ rw (rows-nil n) (append-nil (up_to n w w.size))

-- a row of many items, item by item
pub puts-start : {n u k : ℕ} {t : ℕ → Bool} {b : List ℕ} {c : ℕ} → Puts n (many u k 0 t ∷ []) b c b c
puts-start {n} {u} {k} {t} = record { emits = emits-same (sym (row-faults n (many u k 0 t))) (emits_start n (many u k 0 t)) }

pub puts-turn : {n u k : ℕ} {t : ℕ → Bool} {b₀ b₁ b₂ : List ℕ} {k₀ k₁ k₂ : ℕ} (m : ℕ) → Puts n (many u k m t ∷ []) b₀ k₀ b₁ k₁
    → Puts n (one u (k + m) (t m) ∷ []) b₁ k₁ b₂ k₂ → Puts n (many u k (m + 1) t ∷ []) b₀ k₀ b₂ k₂
puts-turn {n} {u} {k} {t} m p q =
    record {
      emits =
          emits-same (sym (row-faults n (many u k (m + 1) t)))
          (emits-turn n (many u k (m + 1) t) m
          (emits-same (row-faults n (many u k m t) ∙ up-to-same n u k m (m + 1) t t m (λ (a : ℕ) (l : a < m). refl)) p.emits)
          (emits-same (row-faults n (one u (k + m) (t m)) ∙ one-row n u (k + m) (t m)) q.emits));
    }

-- no record has been looked at
pub emits-no-records : {b : List ℕ} {k : ℕ} (rows : ℕ → List Row) → Emits b k (in_records rows 0) b k
unfolding in_records
emits-no-records rows = emits_none

-- rows with the same tests put the same faults
alike : (n : ℕ) (w v : Row) → Alike w v → up_to n w w.size ≡ up_to n v v.size
unfolding up_to
alike n w v a = go w.size (λ (m : ℕ) (l : m < w.size). a.breach m l) ∙ ap (up_to n v) a.size
  where
    go : (m : ℕ) → ((j : ℕ) → j < m → w.breach j ≡ v.breach j) → up_to n w m ≡ up_to n v m
    go zero h = refl
    go (suc m) h = rw (go m (λ (j : ℕ) (l : j < m). h j (omega arith)), h m (omega arith), a.rule, a.first)

all_alike : (n : ℕ) (ws vs : List Row) → AllAlike ws vs → faults_of_rows n ws ≡ faults_of_rows n vs
unfolding faults_of_rows
all_alike n [] [] a = refl
all_alike n [] (v ∷ vs) a = absurd a
all_alike n (w ∷ ws) [] a = absurd a
all_alike n (w ∷ ws) (v ∷ vs) a = rw (alike n w v a.0, all_alike n ws vs a.1)

pub puts-alike : {n : ℕ} {ws : List Row} (vs : List Row) {b₀ b : List ℕ} {k₀ k : ℕ} → AllAlike ws vs → Puts n ws b₀ k₀ b k → Puts n vs b₀ k₀ b k
puts-alike {n} {ws} vs a p = record { emits = emits-same (all_alike n ws vs a) p.emits }

-- one test that agrees, and many
pub alike-one : (u k : ℕ) {s t : Bool} → s ≡ t → Alike (one u k s) (one u k t)
alike-one u k e = record { rule = refl; first = refl; size = refl; breach = λ (m : ℕ) (l : m < 1). e }

pub alike-many : (u k n : ℕ) (s t : ℕ → Bool) → ((m : ℕ) → m < n → s m ≡ t m) → Alike (many u k n s) (many u k n t)
alike-many u k n s t h = record { rule = refl; first = refl; size = refl; breach = h }

-- an item has at most one fault
few-if-so : (t : Bool) (f : Fault) → length (if_so t f) ≤ 1
few-if-so true f = omega arith
few-if-so false f = omega arith

pub few-up-to : (n : ℕ) (w : Row) (m : ℕ) → length (up_to n w m) ≤ m
unfolding up_to
few-up-to n w zero = omega arith
few-up-to n w (suc m) =
    let f : Fault = fault n w.rule (w.first + m) in
    omega (arith, few-up-to n w m, length-append (up_to n w m) (if_so (w.breach m) f), few-if-so (w.breach m) f)

-- ---- the buffer keeps its length, whether a fault fits or not
put-length : (b : List ℕ) (k : ℕ) (f : Fault) → length (put_at b k f) ≡ length b
unfolding put_at
put-length b k f = go (leb (k * width + width) (length b))
  where
    go : (t : Bool) → length (cond t (sets b (k * width) (numbers (unnamed f))) b) ≡ length b
    go true = length-sets b (k * width) (numbers (unnamed f))
    go false = refl

laid-length : (fs : List Fault) (b : List ℕ) (k : ℕ) → length (puts b k fs) ≡ length b
unfolding puts
laid-length [] b k = refl
laid-length (f ∷ fs) b k = laid-length fs (put_at b k f) (k + 1) ∙ put-length b k f

pub emits-length : {b₀ b : List ℕ} {k₀ k : ℕ} {fs : List Fault} → Emits b₀ k₀ fs b k → length b ≡ length b₀
emits-length {b₀} {b} {k₀} {k} {fs} p = ap length p.laid ∙ laid-length fs b₀ k₀

pub puts-length : {n : ℕ} {rows : List Row} {b₀ b : List ℕ} {k₀ k : ℕ} → Puts n rows b₀ k₀ b k → length b ≡ length b₀
puts-length p = emits-length p.emits

-- a row counts at most one fault an item
pub puts-few : {n u k m : ℕ} {t : ℕ → Bool} {b₀ b : List ℕ} {k₀ k₁ : ℕ} → Puts n (many u k m t ∷ []) b₀ k₀ b k₁ → k₁ ≤ k₀ + m
puts-few {n} {u} {k} {m} {t} p =
    omega (arith, p.emits.counted, ap length (row-faults n (many u k m t)), few-up-to n (many u k m t) m)

-- and where it counts that many, each item is a breach
last-breach : (n : ℕ) (w : Row) (m : ℕ) → suc m ≤ length (up_to n w m ++ if_so (w.breach m) (fault n w.rule (w.first + m))) → w.breach m ≡ true
last-breach n w m h = go (w.breach m) h
  where
    go : (t : Bool) → suc m ≤ length (up_to n w m ++ if_so t (fault n w.rule (w.first + m))) → t ≡ true
    go true l = refl
    go false l = absurd (omega (arith, l, few-up-to n w m, length-append (up_to n w m) (if_so false (fault n w.rule (w.first + m)))))

full-up-to : (n : ℕ) (w : Row) (m : ℕ) → m ≤ length (up_to n w m) → (j : ℕ) → j < m → w.breach j ≡ true
unfolding up_to
full-up-to n w zero h j l = absurd (omega (arith, l))
full-up-to n w (suc m) h j l =
    let f : Fault = fault n w.rule (w.first + m) in
    let before : m ≤ length (up_to n w m) = omega (arith, h, length-append (up_to n w m) (if_so (w.breach m) f), few-if-so (w.breach m) f) in
    ⊎_elim
    (λ (s : j ≡ m). rw s (last-breach n w m h))
    (λ (s : j < m). full-up-to n w m before j s)
    (eq-or-lt_of_le (omega (arith, l)))

pub puts-full : {n u k m : ℕ} {t : ℕ → Bool} {b₀ b : List ℕ} {k₀ k₁ : ℕ} → Puts n (many u k m t ∷ []) b₀ k₀ b k₁ → k₁ ≡ k₀ + m → (j : ℕ) → j < m → t j ≡ true
puts-full {n} {u} {k} {m} {t} p e =
    full-up-to n (many u k m t) m (omega (arith, e, p.emits.counted, ap length (row-faults n (many u k m t))))

-- ---- all the faults at once: the first, as many as fit

-- numbers behind numbers
sets-append : (xs ys b : List ℕ) (i : ℕ) → sets b i (xs ++ ys) ≡ sets (sets b i xs) (i + length xs) ys
sets-append [] ys b i = rw (add-zero i)
sets-append (x ∷ xs) ys b i =
    sets-append xs ys (set b i x) (suc i) ∙ ap (λ (j : ℕ). sets (sets (set b i x) (suc i) xs) j ys) (omega arith)

-- from fault k on, those are written for which there is still room
puts-sets : (fs : List Fault) (b : List ℕ) (k : ℕ) → puts b k fs ≡ sets b (k * width) (flat (take (length b / width - k) (map unnamed fs)))
unfolding puts put_at
puts-sets [] b k = rw (take-nil {A = FaultEntry} (length b / width - k))
puts-sets (f ∷ fs) b k = puts-sets fs (put_at b k f) (k + 1) ∙ rw (put-length b k f) (go (dec_lt k (length b / width)))
  where
    go : Dec (k < length b / width)
        → sets (put_at b k f) ((k + 1) * width) (flat (take (length b / width - (k + 1)) (map unnamed fs))) ≡ sets b (k * width) (flat (take (length b / width - k) (map unnamed (f ∷ fs))))
    go (yes h) =
        let room : length b / width - k ≡ suc (length b / width - (k + 1)) = omega arith in
        let next : (k + 1) * width ≡ k * width + width = omega arith in
        let fits : leb (k * width + width) (length b) ≡ true = le-leb (k * width + width) (length b) (omega arith) in
        rw (room, next, fits) (sym (sets-append (numbers (unnamed f)) (flat (take (length b / width - (k + 1)) (map unnamed fs))) b (k * width)))
    go (no h) =
        let none : length b / width - k ≡ 0 = omega arith in
        let none_after : length b / width - (k + 1) ≡ 0 = omega arith in
        let full : leb (k * width + width) (length b) ≡ false = lt-leb (k * width + width) (length b) (omega arith) in
        rw (none, none_after, full)

pub emits-written : {b₀ b : List ℕ} {k : ℕ} {fs : List Fault} → Emits b₀ 0 fs b k → (b ≡ written b₀ (map unnamed fs)) × (k ≡ length fs)
unfolding written
emits-written {b₀} {b} {k} {fs} p =
    let all : length b₀ / width - 0 ≡ length b₀ / width = omega arith in
    (p.laid ∙ puts-sets fs b₀ 0 ∙ rw all, omega (arith, p.counted))
