-- A chain that stays within n numbers and ends at all has ended after n steps. Assumes nothing.
use mathlib.Core.Path.{◌≡◌, refl, ap, ◌∙◌}
use mathlib.Core.Bool.{Bool, true, false, cond, ◌&&◌}
use mathlib.Core.List.{List}
use mathlib.Core.Logic.{◌⊎◌, inl, inr, ⊎_elim}
use Prim.Native.Nat.{ℕ, zero, suc, ◌+◌, ◌-◌, ◌≤◌}
use native.Mathlib.Decide.{ℕ_discrete, dec_le}
use native.Mathlib.Omega.{arith}
use lib.Dec.{eqb}
use lib.ListN.{length}
use Rattle.pool.specs.Reading.{Entry}
use Rattle.views.specs.Fields.{element_of}
use Rattle.naming.specs.Records.{start_at, id_at, kind_at}
use Rattle.naming.specs.Naming.{first_of, named, kind_of, parent_of, climb}
use Rattle.naming.proofs.First.{first-le}

pub climb-add : (f : ℕ → ℕ) (m n r : ℕ) → climb f (m + n) r ≡ climb f n (climb f m r)
unfolding climb
climb-add f zero n r = let e : 0 + n ≡ n = omega arith in rw e
climb-add f (suc m) n r = let e : suc m + n ≡ suc (m + n) = omega arith in rw e (climb-add f m n (f r))

pub climb-zero : (f : ℕ → ℕ) (n : ℕ) → f 0 ≡ 0 → climb f n 0 ≡ 0
unfolding climb
climb-zero f zero e = refl
climb-zero f (suc n) e = rw e (climb-zero f n e)

-- a chain that has ended stays at its end
pub zero-stays : (f : ℕ → ℕ) (m n r : ℕ) → f 0 ≡ 0 → m ≤ n → climb f m r ≡ 0 → climb f n r ≡ 0
zero-stays f m n r e h z =
    let s : n ≡ m + (n - m) = omega arith in
    ap (λ (k : ℕ). climb f k r) s ∙ climb-add f m (n - m) r ∙ ap (climb f (n - m)) z ∙ climb-zero f (n - m) e

-- sums over the numbers up to n
sum : (ℕ → ℕ) → ℕ → ℕ
sum g zero = g 0
sum g (suc n) = sum g n + g (suc n)

sum-le : (g h : ℕ → ℕ) (n : ℕ) → ((r : ℕ) → g r ≤ h r) → sum g n ≤ sum h n
unfolding sum
sum-le g h zero l = l 0
sum-le g h (suc n) l = omega (arith, sum-le g h n l, l (suc n))

-- a sum with no smaller terms that is no larger has no larger terms
sum_same : (g h : ℕ → ℕ) (n : ℕ) → ((r : ℕ) → g r ≤ h r) → sum h n ≤ sum g n → (r : ℕ) → r ≤ n → h r ≤ g r
unfolding sum
sum_same g h zero l s r b = let z : r ≡ 0 = omega arith in rw z s
sum_same g h (suc n) l s r b = go (ℕ_discrete r (suc n)) (sum_same g h n l (omega (arith, l (suc n))))
  where
    go : Dec (r ≡ suc n) → ((q : ℕ) → q ≤ n → h q ≤ g q) → h r ≤ g r
    go (yes e) before = rw e (omega (arith, sum-le g h n l))
    go (no e) before = before r (omega arith)

sum_first : (g : ℕ → ℕ) (n : ℕ) → g 0 ≤ sum g n
unfolding sum
sum_first g zero = omega arith
sum_first g (suc n) = omega (arith, sum_first g n)

sum_ones : (n : ℕ) → sum (λ (r : ℕ). 1) n ≡ n + 1
unfolding sum
sum_ones zero = refl
sum_ones (suc n) = omega (arith, sum_ones n)

-- 1 for a chain that has ended
is_zero : ℕ → ℕ
is_zero zero = 1
is_zero (suc x) = 0

is-zero : (x : ℕ) → 1 ≤ is_zero x → x ≡ 0
unfolding is_zero
is-zero zero h = refl
is-zero (suc x) h = absurd (omega arith)

at_most_one : (x : ℕ) → is_zero x ≤ 1
unfolding is_zero
at_most_one zero = omega arith
at_most_one (suc x) = omega arith

isZero-le : (x y : ℕ) → (x ≡ 0 → y ≡ 0) → is_zero x ≤ is_zero y
unfolding is_zero
isZero-le zero y h = rw (h refl) (omega arith)
isZero-le (suc x) y h = omega arith

module _ (f : ℕ → ℕ) (n : ℕ) (stays : f 0 ≡ 0) (within : (r : ℕ) → r ≤ n → f r ≤ n) where
  done : ℕ → ℕ → ℕ
  done j r = is_zero (climb f j r)

  -- no chain ends at step j + 1
  Still : ℕ → Type 0
  Still j = (r : ℕ) → r ≤ n → climb f (suc j) r ≡ 0 → climb f j r ≡ 0

  still-more : (j : ℕ) → Still j → Still (suc j)
  unfolding Still climb
  still-more j s r h e = s (f r) (within r h) e

  done_more : (j r : ℕ) → done j r ≤ done (suc j) r
  unfolding done
  done_more j r = isZero-le (climb f j r) (climb f (suc j) r) (zero-stays f j (suc j) r stays (omega arith))

  same-still : (j : ℕ) → sum (done (suc j)) n ≤ sum (done j) n → Still j
  unfolding Still done is_zero
  same-still j h r b e =
      let later : 1 ≤ is_zero (climb f (suc j) r) = rw e (omega arith) in
      let kept : is_zero (climb f (suc j) r) ≤ is_zero (climb f j r) = sum_same (done j) (done (suc j)) n (done_more j) h r b in
      is-zero (climb f j r) (omega arith)

  -- after 0 steps one chain has ended: that of 0
  done_first : 0 + 1 ≤ sum (done 0) n
  unfolding done climb is_zero
  done_first = omega (arith, sum_first (done 0) n)

  -- with every step a chain more has ended, or none will
  grown : (j : ℕ) → Still j ⊎ (j + 1 ≤ sum (done j) n)
  grown zero = inr done_first
  grown (suc j) =
      ⊎_elim
      (λ (s : Still j). inl (still-more j s))
      (λ (l : j + 1 ≤ sum (done j) n). go l (dec_le (sum (done (suc j)) n) (sum (done j) n)))
      (grown j)
    where
      go : j + 1 ≤ sum (done j) n → Dec (sum (done (suc j)) n ≤ sum (done j) n) → Still (suc j) ⊎ (suc j + 1 ≤ sum (done (suc j)) n)
      go l (yes h) = inl (still-more j (same-still j h))
      go l (no h) = inr (omega arith)

  still-all : Still n → (k r : ℕ) → r ≤ n → climb f k r ≡ 0 → climb f n r ≡ 0
  unfolding Still climb
  still-all s zero r h e = rw e (climb-zero f n stays)
  still-all s (suc k) r h e = s r h (still-all s k (f r) (within r h) e)

  all_done : n + 1 ≤ sum (done n) n → (r : ℕ) → r ≤ n → climb f n r ≡ 0
  unfolding done
  all_done h r b =
      is-zero (climb f n r) (sum_same (done n) (λ (q : ℕ). 1) n (λ (q : ℕ). at_most_one (climb f n q)) (omega (arith, sum_ones n)) r b)

  pub ended : (r k : ℕ) → r ≤ n → climb f k r ≡ 0 → climb f n r ≡ 0
  ended r k h e = ⊎_elim (λ (s : Still n). still-all s k r h e) (λ (l : n + 1 ≤ sum (done n) n). all_done l r h) (grown n)

-- the step from a record to its parent
cond-le : (b : Bool) (x n : ℕ) → x ≤ n → cond b x 0 ≤ n
cond-le true x n h = h
cond-le false x n h = omega arith

unless-le : (b : Bool) (x n : ℕ) → x ≤ n → cond b 0 x ≤ n
unless-le true x n h = omega arith
unless-le false x n h = h

pub named-le : (es : List Entry) (x : ℕ) → named es x ≤ length es
unfolding named
named-le es x = unless-le (eqb x 65535) (first_of (id_at es) x (length es)) (length es) (first-le (id_at es) x (length es))

pub parent-zero : (p : List ℕ) (es : List Entry) → parent_of p es 0 ≡ 0
unfolding parent_of
parent-zero p es = refl

pub parent-le : (p : List ℕ) (es : List Entry) (r : ℕ) → parent_of p es r ≤ length es
unfolding parent_of
parent-le p es zero = omega arith
parent-le p es (suc i) =
    let r = named es (element_of p (start_at es i)).parent in
    cond-le (eqb (kind_at es i) 2 && eqb (kind_of es r) 2) r (length es) (named-le es (element_of p (start_at es i)).parent)
