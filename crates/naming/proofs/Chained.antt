-- Walks along the links end at the first record with a key, and one record more is entered. Assumes nothing.
use mathlib.Core.Path.{◌≡◌, refl, sym, ap, ◌∙◌}
use mathlib.Core.Bool.{Bool, true, false, true≢false, cond, not, ◌&&◌}
use mathlib.Core.List.{List}
use Prim.Native.Nat.{ℕ, zero, suc, ◌+◌, ◌-◌, ◌≤◌, ◌<◌}
use native.Mathlib.Nat.{not-suc-le-zero}
use native.Mathlib.Numerals.{add-one}
use native.Mathlib.Decide.{ℕ_discrete, dec_lt}
use native.Mathlib.Omega.{arith}
use borrow.Author.Tests.{eq-eqb, ne_eqb, eqb-true}
use lib.Bits.{and_le_r}
use lib.Dec.{eqb}
use lib.ListN.{length, get_or, set, length-set}
use lib.Seq.{get_or-set_same, get_or-set_other}
use Rattle.naming.specs.Naming.{first_of}
use Rattle.naming.proofs.First.{Without, first-none, first_some, first-le, to-first, to_none}
use Rattle.naming.specs.Chained.{slot, opens, last_of, link_of, Chained}

-- every key has a slot
pub slot_lt : (m x : ℕ) → 0 < m → slot m x < m
unfolding slot
slot_lt m x some = omega (arith, and_le_r x (m - 1))

-- a record opens its key if no earlier one has it
module _ (key : ℕ → ℕ) (i : ℕ) where
  pub opening : Without key (key i) i → opens key i ≡ true
  unfolding opens
  opening h = eq-eqb (first_of key (key i) i) 0 (to_none key (key i) i h)

  pub open-without : opens key i ≡ true → Without key (key i) i
  unfolding opens
  open-without o = first-none key (key i) i (eqb-true (first_of key (key i) i) 0 o)

  -- the records that open a key are those that its first number is
  pub first-opens : (x n : ℕ) → first_of key x n ≡ suc i → opens key i ≡ true
  first-opens x n e =
      let s = first_some key x n i e in
      opening (λ (j : ℕ) (l : j < i) (q : key j ≡ key i). s.2 j l (q ∙ s.1))

  pub opens-first : (n : ℕ) → i < n → opens key i ≡ eqb (first_of key (key i) n) (suc i)
  opens-first n l = go (opens key i) refl
    where
      go : (b : Bool) → opens key i ≡ b → opens key i ≡ eqb (first_of key (key i) n) (suc i)
      go true o = o ∙ sym (eq-eqb (first_of key (key i) n) (suc i) (to-first key (key i) n i l refl (open-without o)))
      go false o =
          o ∙ sym (ne_eqb (first_of key (key i) n) (suc i) (λ (e : first_of key (key i) n ≡ suc i). true≢false (sym (first-opens (key i) n e) ∙ o)))

module _ (key : ℕ → ℕ) (m b : ℕ) where
  -- one record more: it is the last, or it is passed over
  pub last-here : (n : ℕ) → opens key n ≡ true → slot m (key n) ≡ b → last_of key m b (suc n) ≡ suc n
  unfolding last_of
  last-here n o e = rw (o, eq-eqb (slot m (key n)) b e)

  pub last-shut : (n : ℕ) → opens key n ≡ false → last_of key m b (suc n) ≡ last_of key m b n
  unfolding last_of
  last-shut n o = rw o

  pub last-other : (n : ℕ) → (slot m (key n) ≡ b → ⊥) → last_of key m b (suc n) ≡ last_of key m b n
  unfolding last_of
  last-other n h = rw (ne_eqb (slot m (key n)) b h) (go (opens key n))
    where
      go : (o : Bool) → cond (o && false) (suc n) (last_of key m b n) ≡ last_of key m b n
      go true = refl
      go false = refl

  pub last_some : (n i : ℕ) → last_of key m b n ≡ suc i → (i < n) × (opens key i ≡ true) × (slot m (key i) ≡ b)
  unfolding last_of
  last_some zero i e = absurd (omega arith)
  last_some (suc n) i e = go (opens key n) refl (ℕ_discrete (slot m (key n)) b) (last_some n i)
    where
      late : (last_of key m b n ≡ suc i → (i < n) × (opens key i ≡ true) × (slot m (key i) ≡ b)) → last_of key m b n ≡ suc i → (i < suc n) × (opens key i ≡ true) × (slot m (key i) ≡ b)
      late before q = let s = before q in (omega (arith, s.0), s.1, s.2)

      go : (o : Bool) → opens key n ≡ o → Dec (slot m (key n) ≡ b) → (last_of key m b n ≡ suc i → (i < n) × (opens key i ≡ true) × (slot m (key i) ≡ b)) → (i < suc n) × (opens key i ≡ true) × (slot m (key i) ≡ b)
      go true o (yes k) before =
          let q : suc n ≡ suc i = sym (last-here n o k) ∙ e in
          let same : i ≡ n = omega arith in
          rw same (omega arith, o, k)
      go true o (no k) before = late before (sym (last-other n k) ∙ e)
      go false o k before = late before (sym (last-shut n o) ∙ e)

  pub last-le : (n : ℕ) → last_of key m b n ≤ n
  last-le n = go (last_of key m b n) refl
    where
      go : (r : ℕ) → last_of key m b n ≡ r → last_of key m b n ≤ n
      go zero e = omega arith
      go (suc i) e = omega (arith, (last_some n i e).0)

  -- no record of the slot that opens a key stands behind the last
  pub last-top : (n k : ℕ) → k < n → opens key k ≡ true → slot m (key k) ≡ b → suc k ≤ last_of key m b n
  last-top zero k l o e = absurd (not-suc-le-zero l)
  last-top (suc n) k l o e = go (opens key n) refl (ℕ_discrete (slot m (key n)) b) (dec_lt k n) (last-top n k)
    where
      go : (w : Bool) → opens key n ≡ w → Dec (slot m (key n) ≡ b) → Dec (k < n) → (k < n → opens key k ≡ true → slot m (key k) ≡ b → suc k ≤ last_of key m b n) → suc k ≤ last_of key m b (suc n)
      go true w (yes q) d before = rw (last-here n w q) (omega arith)
      go true w (no q) (yes d) before = rw (last-other n q) (before d o e)
      go true w (no q) (no d) before = let same : k ≡ n = omega arith in absurd (q (ap (λ (j : ℕ). slot m (key j)) (sym same) ∙ e))
      go false w q (yes d) before = rw (last-shut n w) (before d o e)
      go false w q (no d) before = let same : k ≡ n = omega arith in absurd (true≢false (sym o ∙ ap (opens key) same ∙ w))

-- a walk for a key among n records stands at a number: 0, or a record of the key's slot that opens its own. The first
-- record with the key does not stand behind it
pub record Walks (key : ℕ → ℕ) (n m x r : ℕ) : Type 0 where
  pub inside : r ≤ n
  pub ahead : first_of key x n ≤ r
  pub on : (i : ℕ) → r ≡ suc i → (opens key i ≡ true) × (slot m (key i) ≡ slot m x)

-- from the last of the first j records with the slot, where the key's first is among those
module _ (key : ℕ → ℕ) (n m x : ℕ) where
  walks_from : (j : ℕ) → j ≤ n → first_of key x n ≤ j → Walks key n m x (last_of key m (slot m x) j)
  walks_from j l h =
      record {
        inside = omega (arith, last-le key m (slot m x) j);
        ahead = go (first_of key x n) refl;
        on = λ i e. let s = last_some key m (slot m x) j i e in (s.1, s.2);
      }
    where
      go : (f : ℕ) → first_of key x n ≡ f → first_of key x n ≤ last_of key m (slot m x) j
      go zero e = omega arith
      go (suc k) e =
          let s = first_some key x n k e in
          let top = last-top key m (slot m x) j k (omega arith) (first-opens key k x n e) (ap (λ (y : ℕ). slot m y) s.1) in
          omega arith

  -- past a record with another key
  walks-past : (i : ℕ) → Walks key n m x (suc i) → (key i ≡ x → ⊥) → Walks key n m x (last_of key m (slot m x) i)
  walks-past i w h = walks_from i (omega (arith, w.inside)) (go (first_of key x n) refl)
    where
      go : (f : ℕ) → first_of key x n ≡ f → first_of key x n ≤ i
      go zero e = omega arith
      go (suc k) e =
          let other : k ≡ i → ⊥ = λ (q : k ≡ i). h (ap key (sym q) ∙ (first_some key x n k e).1) in
          omega (arith, w.ahead)

  pub walks-found : (r i : ℕ) → r ≡ suc i → Walks key n m x r → key i ≡ x → r ≡ first_of key x n
  walks-found r i e w k =
      e ∙ sym (to-first key x n i (omega (arith, w.inside)) k (λ (j : ℕ) (l : j < i) (q : key j ≡ x). open-without key i (w.on i e).0 j l (q ∙ sym k)))

  pub walks-out : (r : ℕ) → r ≡ 0 → Walks key n m x r → 0 ≡ first_of key x n
  walks-out r e w = omega (arith, w.ahead)

-- by the lists
module _ (key : ℕ → ℕ) (n : ℕ) (heads next : List ℕ) (c : Chained key n heads next) (x : ℕ) where
  pub walk_begins : Walks key n (length heads) x (get_or heads (slot (length heads) x) 0)
  walk_begins = rw (c.top (slot (length heads) x) (slot_lt (length heads) x c.some)) (walks_from key n (length heads) x n (omega arith) (first-le key x n))

  module _ (r i : ℕ) (here : r ≡ suc i) (w : Walks key n (length heads) x r) where
    link-is : get_or next r 0 ≡ last_of key (length heads) (slot (length heads) x) i
    unfolding link_of
    link-is =
        let o = w.on i here in
        ap (λ (q : ℕ). get_or next q 0) here
        ∙ c.below i (omega (arith, w.inside))
        ∙ rw (o.0, o.1)

    pub walk-goes : (key i ≡ x → ⊥) → Walks key n (length heads) x (get_or next r 0)
    walk-goes h = rw link-is (walks-past key n (length heads) x i (rw here at w) h)

    pub walk-falls : get_or next r 0 < r
    walk-falls = omega (arith, link-is, last-le key (length heads) (slot (length heads) x) i)

-- one record more
module _ (key : ℕ → ℕ) (n : ℕ) (heads next : List ℕ) (c : Chained key n heads next) (room : suc n < length next) where
  -- a link that was there is there after a store behind it
  kept : (v i : ℕ) → i < n → get_or (set next (suc n) v) (suc i) 0 ≡ link_of key (length heads) i
  kept v i l = get_or-set_other next (suc n) (suc i) v 0 (λ (e : suc i ≡ suc n). omega arith) ∙ c.below i l

  -- every link, if the one that was stored is right
  linked : (v : ℕ) → v ≡ link_of key (length heads) n → (i : ℕ) → i < suc n → get_or (set next (suc n) v) (suc i) 0 ≡ link_of key (length heads) i
  linked v is i l = go (dec_lt i n)
    where
      go : Dec (i < n) → get_or (set next (suc n) v) (suc i) 0 ≡ link_of key (length heads) i
      go (yes h) = kept v i h
      go (no h) = let same : i ≡ n = omega arith in rw same (get_or-set_same next (suc n) v 0 room ∙ is)

  -- an earlier one has its key: it is marked
  pub chained-shut : (first_of key (key n) n ≡ 0 → ⊥) → Chained key (suc n) heads (set next (suc n) 65535)
  unfolding opens link_of
  chained-shut h =
      let shut : opens key n ≡ false = ne_eqb (first_of key (key n) n) 0 h in
      record {
        some = c.some;
        top = λ b l. c.top b l ∙ sym (last-shut key (length heads) b n shut);
        below = linked 65535 (rw shut);
      }

  -- else it is linked to the last of its slot, and is that itself
  pub chained-open : first_of key (key n) n ≡ 0 → Chained key (suc n) (set heads (slot (length heads) (key n)) (suc n)) (set next (suc n) (get_or heads (slot (length heads) (key n)) 0))
  unfolding opens link_of
  chained-open z =
      record {
        some = rw long c.some;
        top = λ b l. rw long (tops b (rw long at l) (ℕ_discrete b r));
        below = rw long (linked (get_or heads r 0) (c.top r small ∙ rw opened));
      }
    where
      r : ℕ
      r = slot (length heads) (key n)

      small : slot (length heads) (key n) < length heads
      small = slot_lt (length heads) (key n) c.some

      long : length (set heads (slot (length heads) (key n)) (suc n)) ≡ length heads
      long = length-set heads (slot (length heads) (key n)) (suc n)

      opened : opens key n ≡ true
      opened = eq-eqb (first_of key (key n) n) 0 z

      tops : (b : ℕ) → b < length heads → Dec (b ≡ slot (length heads) (key n)) → get_or (set heads (slot (length heads) (key n)) (suc n)) b 0 ≡ last_of key (length heads) b (suc n)
      tops b l (yes e) = rw e (get_or-set_same heads (slot (length heads) (key n)) (suc n) 0 small ∙ sym (last-here key (length heads) (slot (length heads) (key n)) n opened refl))
      tops b l (no e) = get_or-set_other heads (slot (length heads) (key n)) b (suc n) 0 e ∙ c.top b l ∙ sym (last-other key (length heads) b n (λ (q : slot (length heads) (key n) ≡ b). e (sym q)))

-- no record yet
pub chained-none : (key : ℕ → ℕ) (heads next : List ℕ) → 0 < length heads → ((x : ℕ) → get_or heads x 0 ≡ 0) → Chained key 0 heads next
unfolding last_of
chained-none key heads next s blank = record { some = s; top = λ b l. blank b; below = λ i l. absurd (not-suc-le-zero l) }

-- the mark stands exactly where a record does not open its key
pub unmarked : (key : ℕ → ℕ) (n : ℕ) (heads next : List ℕ) → Chained key n heads next → n < 65535 → (i : ℕ) → i < n → eqb (get_or next (suc i) 0) 65535 ≡ not (opens key i)
unfolding link_of
unmarked key n heads next c few i l = rw (c.below i l) (go (opens key i))
  where
    go : (o : Bool) → eqb (cond o (last_of key (length heads) (slot (length heads) (key i)) i) 65535) 65535 ≡ not o
    go true =
        ne_eqb (last_of key (length heads) (slot (length heads) (key i)) i) 65535
        (λ (e : last_of key (length heads) (slot (length heads) (key i)) i ≡ 65535). omega (arith, last-le key (length heads) (slot (length heads) (key i)) i))
    go false = eq-eqb 65535 65535 refl

-- the same by the ID that was read and the number that was found
module _ (key : ℕ → ℕ) (n : ℕ) (heads next : List ℕ) (c : Chained key n heads next) (room : n + 1 < length next) (k f : ℕ) (is : k ≡ key n) (found : f ≡ first_of key k n) where
  same_first : f ≡ first_of key (key n) n
  same_first = found ∙ ap (λ (x : ℕ). first_of key x n) is

  pub entered-again : (f ≡ 0 → ⊥) → Chained key (n + 1) heads (set next (n + 1) 65535)
  entered-again h = rw (add-one n) (chained-shut key n heads next c (omega arith) (λ (z : first_of key (key n) n ≡ 0). h (same_first ∙ z)))

  pub opens-shut : (f ≡ 0 → ⊥) → false ≡ opens key n
  unfolding opens
  opens-shut h = sym (ne_eqb (first_of key (key n) n) 0 (λ (z : first_of key (key n) n ≡ 0). h (same_first ∙ z)))

  pub opens-new : f ≡ 0 → true ≡ opens key n
  unfolding opens
  opens-new z = sym (eq-eqb (first_of key (key n) n) 0 (sym same_first ∙ z))

  pub entered-first : f ≡ 0 → Chained key (n + 1) (set heads (slot (length heads) k) (n + 1)) (set next (n + 1) (get_or heads (slot (length heads) k) 0))
  entered-first z = rw (add-one n, is) (chained-open key n heads next c (omega arith) (sym same_first ∙ z))
