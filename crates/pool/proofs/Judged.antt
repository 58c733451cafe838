-- What a walk's answer means for reading. Assumes nothing.
use mathlib.Core.Path.{◌≡◌, refl, sym, ap, ◌∙◌}
use mathlib.Core.Bool.{Bool, true, false, cond}
use mathlib.Core.List.{List}
use Prim.Native.Nat.{ℕ, suc, ◌+◌, ◌≤◌, ◌<◌}
use native.Mathlib.Omega.{arith}
use borrow.Author.Tests.{lt-ltb, le-ltb, eq-eqb, ne_eqb, eqb-false, ltb-false}
use lib.Dec.{eqb, ltb}
use lib.ListN.{length, take}
use lib.Seq.{length-take-le}
use Rattle.pool.specs.Answer.{Answer, answer, refusal_answer}
use Rattle.pool.specs.Reading.{Scan, records, refused, scan_of, entries_in, counted, read_of}
use Rattle.pool.specs.Walk.{count_from, entries_of, Starts, Listed}
use Rattle.pool.specs.declared.Refusal.{Refusal}
use Rattle.pool.specs.declared.Refusal.TheVariants.{Empty, TooLong, NoMark, Cut, LengthOver, TooMany, TableShort}
use Rattle.pool.proofs.Steps.{bad-number, Proper, scan-proper}

pub read-empty : (p : List ℕ) (room : ℕ) → length p ≡ 0 → read_of p room ≡ answer 1 0
unfolding read_of
read-empty p room h = rw (eq-eqb (length p) 0 h)

pub read-long : (p : List ℕ) (room : ℕ) → 65535 < length p → read_of p room ≡ answer 2 0
unfolding read_of
read-long p room h = rw (ne_eqb (length p) 0 (λ (z : length p ≡ 0). omega arith), lt-ltb 65535 (length p) h)

pub read_walk : (p : List ℕ) (room : ℕ) → 0 < length p → length p ≤ 65535 → read_of p room ≡ counted room (scan_of p)
unfolding read_of
read_walk p room a b = rw (ne_eqb (length p) 0 (λ (z : length p ≡ 0). omega arith), le-ltb 65535 (length p) b)

-- a count that a walk answers is its records'
pub walk-count : (n : ℕ) (s : Scan) → Proper s → answer 0 n ≡ count_from 0 s → (s ≡ records (entries_in s)) × (length (entries_in s) ≡ n)
walk-count n (records es) h e =
    let z : n ≡ 0 + length es = ap (λ (a : Answer). a.value) e in
    (refl, omega arith)
walk-count n (refused a) h e = absurd (bad-number h (sym (ap (λ (a : Answer). a.number) e)))

-- what reading answers by the count that a walk answers
pub walk-read : (p : List ℕ) (room n : ℕ) → 0 < length p → length p ≤ 65535 → answer 0 n ≡ count_from 0 (scan_of p)
    → read_of p room ≡ cond (ltb 8192 n) (answer 6 0) (cond (ltb room n) (answer 7 n) (answer 0 n))
walk-read p room n some short e =
    let w = walk-count n (scan_of p) (scan-proper p) e in
    read_walk p room some short ∙ ap (counted room) w.0 ∙ rw w.1

-- a refusal has a number
pub refused-number : (r : Refusal) → (refusal_answer r).number ≡ 0 → ⊥
refused-number Empty e = omega arith
refused-number TooLong e = omega arith
refused-number (NoMark at) e = omega arith
refused-number (Cut at) e = omega arith
refused-number (LengthOver at) e = omega arith
refused-number TooMany e = omega arith
refused-number (TableShort n) e = omega arith

-- a walk that is refused is refused as reading is
refused-alike : (room : ℕ) (s : Scan) (r : Refusal) → refusal_answer r ≡ count_from 0 s → refusal_answer r ≡ counted room s
refused-alike room (refused a) r e = e
refused-alike room (records es) r e = absurd (refused-number r (ap (λ (a : Answer). a.number) e))

pub walk-refused : (p : List ℕ) (room : ℕ) (r : Refusal) → 0 < length p → length p ≤ 65535 → refusal_answer r ≡ count_from 0 (scan_of p) → refusal_answer r ≡ read_of p room
walk-refused p room r some short e = refused-alike room (scan_of p) r e ∙ sym (read_walk p room some short)

-- an answer with number 0 is a count
pub as_read : (a : Answer) → a.number ≡ 0 → a ≡ answer 0 a.value
as_read a n = rw (← n)

-- a refusal that a test picks was not picked where a count is answered
picked : (b : Bool) (x y : Answer) (n : ℕ) → (x.number ≡ 0 → ⊥) → answer 0 n ≡ cond b x y → (b ≡ false) × (answer 0 n ≡ y)
picked true x y n never e = absurd (never (sym (ap (λ (a : Answer). a.number) e)))
picked false x y n never e = (refl, e)

-- what a pool is that reading counts
pub record Counted (p : List ℕ) (room n : ℕ) : Type 0 where
  pub some : 0 < length p
  pub short : length p ≤ 65535
  pub scanned : scan_of p ≡ records (entries_in (scan_of p))
  pub count : length (entries_in (scan_of p)) ≡ n
  pub few : n ≤ 8192
  pub fits : n ≤ room

pub read-counted : (p : List ℕ) (room n : ℕ) → answer 0 n ≡ read_of p room → Counted p room n
unfolding read_of
read-counted p room n e =
    let first = picked (eqb (length p) 0) (answer 1 0) (cond (ltb 65535 (length p)) (answer 2 0) (counted room (scan_of p))) n (λ (z : 1 ≡ 0). omega arith) e in
    let second = picked (ltb 65535 (length p)) (answer 2 0) (counted room (scan_of p)) n (λ (z : 2 ≡ 0). omega arith) first.1 in
    go (eqb-false (length p) 0 first.0) (ltb-false 65535 (length p) second.0) (scan_of p) (scan-proper p) refl second.1
  where
    go : (length p ≡ 0 → ⊥) → length p ≤ 65535 → (s : Scan) → Proper s → scan_of p ≡ s → answer 0 n ≡ counted room s → Counted p room n
    go a b (refused y) h x f = absurd (bad-number h (sym (ap (λ (y : Answer). y.number) f)))
    go a b (records es) h x f =
        let l = length es in
        let six = picked (ltb 8192 l) (answer 6 0) (cond (ltb room l) (answer 7 l) (answer 0 l)) n (λ (z : 6 ≡ 0). omega arith) f in
        let seven = picked (ltb room l) (answer 7 l) (answer 0 l) n (λ (z : 7 ≡ 0). omega arith) six.1 in
        let same : n ≡ l = ap (λ (y : Answer). y.value) seven.1 in
        let few-left : l ≤ 8192 = ltb-false 8192 l six.0 in
        let room-left : l ≤ room = ltb-false room l seven.0 in
        let found : entries_in (scan_of p) ≡ es = ap entries_in x in
        record {
          some = lt_of_le_ne a;
          short = b;
          scanned = x ∙ ap records (sym found);
          count = ap length found ∙ sym same;
          few = omega arith;
          fits = omega arith;
        }
      where
        lt_of_le_ne : (length p ≡ 0 → ⊥) → 0 < length p
        lt_of_le_ne z = omega arith

-- a refusal lists nothing
pub unlisted : (p : List ℕ) (room : ℕ) (starts : List ℕ) → ((read_of p room).number ≡ 0 → ⊥) → Listed p room starts
unfolding Listed
unlisted p room starts h z = absurd (h z)

-- a walk that lists the starts of the records it reads lists them for reading
pub listed : (p : List ℕ) (room : ℕ) (starts : List ℕ) → Starts p starts → Listed p room starts
unfolding Listed Starts
listed p room starts s z =
    let n = (read_of p room).value in
    let k = read-counted p room n (ap (λ (a : ℕ). answer a n) (sym z)) in
    let l = s (entries_in (scan_of p)) k.scanned in
    let many : suc (length (entries_in (scan_of p))) ≡ n + 1 = omega (arith, k.count) in
    let is : entries_of p (take (n + 1) starts) ≡ entries_in (scan_of p) = ap (λ (m : ℕ). entries_of p (take m starts)) (sym many) ∙ l.1 in
    let room-left : n < length starts = omega (arith, l.0, k.count) in
    (room-left, record { some = rw (length-take-le (n + 1) starts (omega arith)) (omega arith); short = k.short; divides = k.scanned ∙ ap records (sym is) })
