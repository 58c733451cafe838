-- Doubling the steps of every chain in place, turn by turn, and what holds at the end. Assumes nothing.
use mathlib.Core.Path.{◌≡◌, refl, sym, ap, ◌∙◌}
use mathlib.Core.Bool.{Bool, true, false, not, ◌&&◌, ◌||◌, true≢false}
use mathlib.Core.List.{List}
use Prim.Native.Nat.{ℕ, zero, suc, ◌+◌, ◌-◌, ◌≤◌, ◌<◌}
use native.Mathlib.Decide.{ℕ_discrete, dec_le}
use native.Mathlib.Numerals.{add-one}
use native.Mathlib.Omega.{arith}
use borrow.Author.Tests.{eqb-true, eq-eqb, ne_eqb, not-false}
use lib.Dec.{eqb}
use lib.ListN.{length, get_or, set, length-set}
use lib.Seq.{get_or-set_same, get_or-set_other}
use Rattle.wire.proofs.Either.{neither}
use Rattle.pool.specs.Reading.{Entry}
use Rattle.naming.specs.Naming.{parent_of, climb}
use Rattle.naming.proofs.Climb.{climb-add, climb-zero, zero-stays, ended, parent-zero, parent-le}
use Rattle.chains.specs.Steps.{Climbs, Doubles, Closed, Ended}

climb-le : (f : ℕ → ℕ) (n : ℕ) → ((r : ℕ) → r ≤ n → f r ≤ n) → (k r : ℕ) → r ≤ n → climb f k r ≤ n
unfolding climb
climb-le f n within zero r h = h
climb-le f n within (suc k) r h = climb-le f n within k (f r) (within r h)

-- x is q after m steps or more
abbrev Climbed : (ℕ → ℕ) → ℕ → ℕ → ℕ → Type 0
Climbed f m q x = (k : ℕ) × (m ≤ k) × (x ≡ climb f k q)

-- the numbers above r have been doubled. The list is changed in place: a step to one of them is more than one step
pub record Doubling (f : ℕ → ℕ) (n m r : ℕ) (ups : List ℕ) : Type 0 where
  pub once : (q : ℕ) → q ≤ n → Climbed f m q (get_or ups q 0)
  pub twice : (q : ℕ) → r < q → q ≤ n → Climbed f (m + m) q (get_or ups q 0)

-- no chain has come to its end so far: 0 stands where it stood, and a step from a number above r leads to where 0 did not stand
pub record Still (n : ℕ) (before ups : List ℕ) (r : ℕ) : Type 0 where
  pub stays : (q : ℕ) → q ≤ n → get_or before q 0 ≡ 0 → get_or ups q 0 ≡ 0
  pub comes : (q : ℕ) → q ≤ n → get_or ups q 0 ≡ 0 → get_or before q 0 ≡ 0
  pub closed : (q : ℕ) → r < q → q ≤ n → (get_or before q 0 ≡ 0 → ⊥) → get_or before (get_or before q 0) 0 ≡ 0 → ⊥

-- what holds at each turn, whatever the steps are
pub record Jumping (n : ℕ) (before ups : List ℕ) (ended : Bool) (r : ℕ) : Type 0 where
  pub passed : r ≤ n
  pub long : length ups ≡ length before
  pub within : (q : ℕ) → q ≤ n → get_or ups q 0 ≤ n
  pub first : get_or ups 0 0 ≡ 0
  pub kept : (q : ℕ) → q ≤ r → get_or ups q 0 ≡ get_or before q 0
  pub doubling : (f : ℕ → ℕ) (m : ℕ) → f 0 ≡ 0 → Climbs f n m before → Doubling f n m r ups
  pub still : ended ≡ false → Still n before ups r

pub jump-start : (n : ℕ) (ups : List ℕ) → get_or ups 0 0 ≡ 0 → ((q : ℕ) → q ≤ n → get_or ups q 0 ≤ n) → Jumping n ups ups false n
jump-start n ups e h =
    record {
      passed = omega arith;
      long = refl;
      within = h;
      first = e;
      kept = λ (q : ℕ) (l : q ≤ n). refl;
      doubling = λ (f : ℕ → ℕ) (m : ℕ) (z : f 0 ≡ 0) (c : Climbs f n m ups). record { once = c; twice = λ (q : ℕ) (l : n < q) (b : q ≤ n). absurd (omega arith) };
      still = λ t. record { stays = λ q l w. w; comes = λ q l w. w; closed = λ (q : ℕ) (l : n < q) (b : q ≤ n). absurd (omega arith) };
    }

-- a list after a store: what holds of the number and its new value, and of every other and its old one, holds of each
stored : (P : ℕ → ℕ → Type 0) (ups : List ℕ) (r v : ℕ) → r < length ups → P r v → (q : ℕ) → ((q ≡ r → ⊥) → P q (get_or ups q 0)) → P q (get_or (set ups r v) q 0)
stored P ups r v l here q other = go (ℕ_discrete q r)
  where
    go : Dec (q ≡ r) → P q (get_or (set ups r v) q 0)
    go (yes e) = rw (e, get_or-set_same ups r v 0 l) here
    go (no d) = rw (get_or-set_other ups r q v 0 d) (other d)

-- a round has not seen a chain end
unended : (ended : Bool) (up next : ℕ) → ended || (not (eqb up 0) && eqb next 0) ≡ false → (ended ≡ false) × ((up ≡ 0 → ⊥) → next ≡ 0 → ⊥)
unended true up next t = absurd (true≢false t)
unended false up next t = (refl, λ (u : up ≡ 0 → ⊥) (z : next ≡ 0). true≢false (rw (ne_eqb up 0 u, eq-eqb next 0 z) at t))

module _ (n : ℕ) (before ups : List ℕ) (ended : Bool) (r : ℕ) (h : 0 < r) (room : n < length before) (j : Jumping n before ups ended r) where
  mid : ℕ
  mid = get_or ups r 0

  next : ℕ
  next = get_or ups mid 0

  inside : r < length ups
  inside = omega (arith, j.long, j.passed)

  next-twice : (f : ℕ → ℕ) (m : ℕ) → Doubling f n m r ups → Climbed f (m + m) r next
  unfolding next mid
  next-twice f m d =
      let a = d.once r j.passed in
      let b = d.once (get_or ups r 0) (j.within r j.passed) in
      (a.0 + b.0, omega (arith, a.1, b.1), b.2 ∙ ap (climb f b.0) a.2 ∙ sym (climb-add f a.0 b.0 r))

  double-more : (f : ℕ → ℕ) (m : ℕ) → Doubling f n m r ups → Doubling f n m (r - 1) (set ups r next)
  double-more f m d =
      let t = next-twice f m d in
      record {
        once = λ (q : ℕ) (l : q ≤ n). stored (Climbed f m) ups r next inside (t.0, omega (arith, t.1), t.2) q (λ w. d.once q l);
        twice = λ (q : ℕ) (l : r - 1 < q) (b : q ≤ n). stored (Climbed f (m + m)) ups r next inside t q (λ (w : q ≡ r → ⊥). d.twice q (omega arith) b);
      }

  mid-before : mid ≡ get_or before r 0
  unfolding mid
  mid-before = j.kept r (omega arith)

  -- where the step came to an end before, the next one has, too
  next-zero : mid ≡ 0 → next ≡ 0
  unfolding next
  next-zero e = rw e j.first

  still-more : Still n before ups r → ((mid ≡ 0 → ⊥) → next ≡ 0 → ⊥) → Still n before (set ups r next) (r - 1)
  unfolding next mid
  still-more s w =
      record {
        stays = λ (q : ℕ) (l : q ≤ n). stored (λ (k x : ℕ). get_or before k 0 ≡ 0 → x ≡ 0) ups r next inside (λ (z : get_or before r 0 ≡ 0). next-zero (mid-before ∙ z)) q (λ d. s.stays q l);
        comes = λ (q : ℕ) (l : q ≤ n). stored (λ (k x : ℕ). x ≡ 0 → get_or before k 0 ≡ 0) ups r next inside (λ (z : next ≡ 0). here z (ℕ_discrete mid 0)) q (λ d. s.comes q l);
        closed = λ (q : ℕ) (l : r - 1 < q) (b : q ≤ n) (u : get_or before q 0 ≡ 0 → ⊥) (z : get_or before (get_or before q 0) 0 ≡ 0). there q l b u z (ℕ_discrete q r);
      }
    where
      here : next ≡ 0 → Dec (mid ≡ 0) → get_or before r 0 ≡ 0
      here z (yes e) = sym mid-before ∙ e
      here z (no d) = absurd (w d z)

      on : get_or before mid 0 ≡ 0 → next ≡ 0
      on z = s.stays (get_or ups r 0) (j.within r j.passed) z

      there : (q : ℕ) → r - 1 < q → q ≤ n → (get_or before q 0 ≡ 0 → ⊥) → get_or before (get_or before q 0) 0 ≡ 0 → Dec (q ≡ r) → ⊥
      there q l b u z (no d) = s.closed q (omega arith) b u z
      there q l b u z (yes e) =
          let same : get_or before q 0 ≡ mid = ap (λ (k : ℕ). get_or before k 0) e ∙ sym mid-before in
          w (λ (v : mid ≡ 0). u (same ∙ v)) (on (sym (ap (λ (k : ℕ). get_or before k 0) same) ∙ z))

  pub jump-more : Jumping n before (set ups r (get_or ups (get_or ups r 0) 0)) (ended || (not (eqb (get_or ups r 0) 0) && eqb (get_or ups (get_or ups r 0) 0) 0)) (r - 1)
  unfolding next mid
  jump-more =
      record {
        passed = omega (arith, j.passed);
        long = length-set ups r next ∙ j.long;
        within = λ (q : ℕ) (l : q ≤ n). stored (λ (k x : ℕ). x ≤ n) ups r next inside (j.within (get_or ups r 0) (j.within r j.passed)) q (λ w. j.within q l);
        first = get_or-set_other ups r 0 next 0 (λ (z : 0 ≡ r). omega arith) ∙ j.first;
        kept = λ (q : ℕ) (l : q ≤ r - 1). get_or-set_other ups r q next 0 (λ (z : q ≡ r). omega arith) ∙ j.kept q (omega arith);
        doubling = λ (f : ℕ → ℕ) (m : ℕ) (z : f 0 ≡ 0) (c : Climbs f n m before). double-more f m (j.doubling f m z c);
        still = λ (t : ended || (not (eqb (get_or ups r 0) 0) && eqb next 0) ≡ false).
            let b = unended ended (get_or ups r 0) next t in
            still-more (j.still b.0) b.1;
      }

pub jump_end : (n : ℕ) (before ups : List ℕ) (ended : Bool) (r : ℕ) → r ≤ 0 → get_or before 0 0 ≡ 0 → Jumping n before ups ended r
    → Doubles n before ups × (ended ≡ false → Closed n before × ((q : ℕ) → q ≤ n → get_or before q 0 ≡ 0 → get_or ups q 0 ≡ 0))
jump_end n before ups ended r h e j = (
  λ (f : ℕ → ℕ) (m : ℕ) (z : f 0 ≡ 0) (c : Climbs f n m before) (q : ℕ) (l : q ≤ n). doubled f m z c q l (ℕ_discrete q 0),
  λ (t : ended ≡ false). (λ (q : ℕ) (l : q ≤ n) (u : get_or before q 0 ≡ 0 → ⊥). shut t q l u (ℕ_discrete q 0), (j.still t).stays),
)
  where
    doubled : (f : ℕ → ℕ) (m : ℕ) → f 0 ≡ 0 → Climbs f n m before → (q : ℕ) → q ≤ n → Dec (q ≡ 0) → Climbed f (m + m) q (get_or ups q 0)
    doubled f m z c q l (yes d) = rw d (m + m, omega arith, j.first ∙ sym (climb-zero f (m + m) z))
    doubled f m z c q l (no d) = (j.doubling f m z c).twice q (omega arith) l

    shut : ended ≡ false → (q : ℕ) → q ≤ n → (get_or before q 0 ≡ 0 → ⊥) → Dec (q ≡ 0) → get_or before (get_or before q 0) 0 ≡ 0 → ⊥
    shut t q l u (yes d) z = u (ap (λ (k : ℕ). get_or before k 0) d ∙ e)
    shut t q l u (no d) z = (j.still t).closed q (omega arith) l u z

-- ---- the first step, from each number to one that may be before it

-- what holds when the numbers below r have been stepped from
pub record Rising (f : ℕ → ℕ) (r : ℕ) (ups : List ℕ) (left : Bool) : Type 0 where
  pub climbs : (q : ℕ) → q < r → Climbed f 1 q (get_or ups q 0)
  pub zeros : left ≡ false → (q : ℕ) → q < r → get_or ups q 0 ≡ 0

pub rise-start : (f : ℕ → ℕ) (ups : List ℕ) → f 0 ≡ 0 → get_or ups 0 0 ≡ 0 → Rising f 1 ups false
rise-start f ups z e =
    record {
      climbs = λ (q : ℕ) (l : q < 1). let s : q ≡ 0 = omega arith in rw s (1, omega arith, e ∙ sym (climb-zero f 1 z));
      zeros = λ t (q : ℕ) (l : q < 1). let s : q ≡ 0 = omega arith in rw s e;
    }

module _ (f : ℕ → ℕ) (r : ℕ) (ups : List ℕ) (left : Bool) (room : r < length ups) (rising : Rising f r ups left) where
  rise : (v : ℕ) → Climbed f 1 r v → Rising f (r + 1) (set ups r v) (left || not (eqb v 0))
  rise v c =
      record {
        climbs = λ (q : ℕ) (l : q < r + 1). stored (Climbed f 1) ups r v room c q (λ (w : q ≡ r → ⊥). rising.climbs q (omega arith));
        zeros = λ (t : left || not (eqb v 0) ≡ false) (q : ℕ) (l : q < r + 1).
            let b = neither left (not (eqb v 0)) t in
            stored (λ (k x : ℕ). x ≡ 0) ups r v room (eqb-true v 0 (not-false (eqb v 0) b.1)) q (λ (w : q ≡ r → ⊥). rising.zeros b.0 q (omega arith));
      }

  -- one step, and the steps of a number that has been stepped from
  pub rise-once : (v : ℕ) → v ≡ f r → Rising f (r + 1) (set ups r v) (left || not (eqb v 0))
  unfolding climb
  rise-once v e = rise v (1, omega arith, e)

  pub rise-on : (q : ℕ) → q ≡ f r → q < r → Rising f (r + 1) (set ups r (get_or ups q 0)) (left || not (eqb (get_or ups q 0) 0))
  unfolding climb
  rise-on q e l =
      let c = rising.climbs q l in
      rise (get_or ups q 0) (c.0 + 1, omega arith, c.2 ∙ rw (add-one c.0) (ap (climb f c.0) e))

-- what the chains of parents have come to after m steps or more
module _ (p : List ℕ) (es : List Entry) (m : ℕ) (ups : List ℕ) (climbs : Climbs (parent_of p es) (length es) m ups) where
  within : (r : ℕ) → r ≤ length es → parent_of p es r ≤ length es
  within r l = parent-le p es r

  pub climbs-zero : get_or ups 0 0 ≡ 0
  climbs-zero = let c = climbs 0 (omega arith) in c.2 ∙ climb-zero (parent_of p es) c.0 (parent-zero p es)

  pub climbs-within : (r : ℕ) → r ≤ length es → get_or ups r 0 ≤ length es
  climbs-within r l = let c = climbs r l in rw c.2 (climb-le (parent_of p es) (length es) within c.0 r l)

  zero-ends : (r : ℕ) → r ≤ length es → get_or ups r 0 ≡ 0 → climb (parent_of p es) (length es) r ≡ 0
  zero-ends r l e = let c = climbs r l in ended (parent_of p es) (length es) (parent-zero p es) within r c.0 l (sym c.2 ∙ e)

  -- as many steps as there are records
  pub climbed-ends : length es ≤ m → Ended p es ups
  climbed-ends h r l =
      let c = climbs r l in
      (zero-ends r l, λ (e : climb (parent_of p es) (length es) r ≡ 0). c.2 ∙ zero-stays (parent_of p es) (length es) c.0 r (parent-zero p es) (omega (arith, c.1)) e)

  -- no chain is left that has not ended
  pub none_left : ((r : ℕ) → r ≤ length es → get_or ups r 0 ≡ 0) → Ended p es ups
  none_left z r l = (zero-ends r l, λ e. z r l)

  -- where steps from chains that have not ended lead to such chains, those never end: the chain is shorter from there
  open_step : Closed (length es) ups → 1 ≤ m → (k r : ℕ) → r ≤ length es → climb (parent_of p es) k r ≡ 0
      → ((i q : ℕ) → i < k → q ≤ length es → climb (parent_of p es) i q ≡ 0 → get_or ups q 0 ≡ 0) → get_or ups r 0 ≡ 0
  open_step s o k r h z shorter = go (ℕ_discrete (get_or ups r 0) 0) (dec_le c.0 k)
    where
      c : (j : ℕ) × (m ≤ j) × (get_or ups r 0 ≡ climb (parent_of p es) j r)
      c = climbs r h

      rest : c.0 ≤ k → climb (parent_of p es) (k - c.0) (get_or ups r 0) ≡ 0
      rest a =
          let e : c.0 + (k - c.0) ≡ k = omega arith in
          ap (climb (parent_of p es) (k - c.0)) c.2 ∙ sym (climb-add (parent_of p es) c.0 (k - c.0) r) ∙ ap (λ (i : ℕ). climb (parent_of p es) i r) e ∙ z

      go : Dec (get_or ups r 0 ≡ 0) → Dec (c.0 ≤ k) → get_or ups r 0 ≡ 0
      go (yes e) a = e
      go (no d) (no a) = c.2 ∙ zero-stays (parent_of p es) k c.0 r (parent-zero p es) (omega arith) z
      go (no d) (yes a) = absurd (s r h d (shorter (k - c.0) (get_or ups r 0) (omega (arith, c.1)) (climbs-within r h) (rest a)))

  open-on : Closed (length es) ups → 1 ≤ m → (b k r : ℕ) → k ≤ b → r ≤ length es → climb (parent_of p es) k r ≡ 0 → get_or ups r 0 ≡ 0
  open-on s o zero k r l h z = open_step s o k r h z (λ (i q : ℕ) (b : i < k). absurd (omega arith))
  open-on s o (suc b) k r l h z =
      open_step s o k r h z (λ (i q : ℕ) (w : i < k) (v : q ≤ length es) (e : climb (parent_of p es) i q ≡ 0). open-on s o b i q (omega arith) v e)

  -- a round in which no chain has come to its end
  pub closed-ends : Closed (length es) ups → 1 ≤ m → (after : List ℕ) → Climbs (parent_of p es) (length es) (m + m) after
      → ((r : ℕ) → r ≤ length es → get_or ups r 0 ≡ 0 → get_or after r 0 ≡ 0) → Ended p es after
  closed-ends s o after on stay r l =
      let d = on r l in
      (λ (e : get_or after r 0 ≡ 0). ended (parent_of p es) (length es) (parent-zero p es) within r d.0 l (sym d.2 ∙ e), λ (e : climb (parent_of p es) (length es) r ≡ 0). stay r l (open-on s o (length es) (length es) r (omega arith) l e))

-- what stands under the numbers tells whether the chains end
pub ended_same : (p : List ℕ) (es : List Entry) (ups : List ℕ) → Ended p es ups → (r : ℕ) → r ≤ length es
    → not (eqb (get_or ups r 0) 0) ≡ not (eqb (climb (parent_of p es) (length es) r) 0)
ended_same p es ups ended r l = go (ℕ_discrete (get_or ups r 0) 0)
  where
    go : Dec (get_or ups r 0 ≡ 0) → not (eqb (get_or ups r 0) 0) ≡ not (eqb (climb (parent_of p es) (length es) r) 0)
    go (yes e) = ap not (eq-eqb (get_or ups r 0) 0 e ∙ sym (eq-eqb (climb (parent_of p es) (length es) r) 0 ((ended r l).0 e)))
    go (no d) = ap not (ne_eqb (get_or ups r 0) 0 d ∙ sym (ne_eqb (climb (parent_of p es) (length es) r) 0 (λ (e : climb (parent_of p es) (length es) r ≡ 0). d ((ended r l).1 e))))
