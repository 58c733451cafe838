-- Rule 12's walk along links by the records' numbers. The lists are described by the entries: for a remainder, the last entry
-- with a new tag, and for the record of such an entry the last one before it. A record that no entry names has no link.
-- Assumes nothing.
use mathlib.Core.Path.{◌≡◌, refl, sym, ap, ◌∙◌}
use mathlib.Core.Bool.{Bool, true, false, true≢false, cond, ◌&&◌}
use mathlib.Core.List.{List}
use Prim.Native.Nat.{ℕ, zero, suc, ◌+◌, ◌-◌, ◌≤◌, ◌<◌, ◌%◌}
use native.Mathlib.Nat.{not-suc-le-zero, mod-lt}
use native.Mathlib.Decide.{ℕ_discrete, dec_lt}
use native.Mathlib.Omega.{arith}
use borrow.Author.Tests.{eq-eqb, ne_eqb}
use lib.Dec.{eqb}
use lib.ListN.{length, get_or, set, length-set}
use lib.Seq.{get_or-set_same, get_or-set_other}
use Rattle.naming.specs.Naming.{first_of}
use Rattle.naming.specs.Chained.{opens}
use Rattle.naming.specs.Lists.{Blank}
use Rattle.naming.proofs.First.{Without, first-none, first_some, to-first}
use Rattle.naming.proofs.Chained.{opening, open-without, first-opens}
use Rattle.rules.proofs.Truth.{untrue}

-- ---- an entry brings a new tag
unfoldable pub fresh : (ℕ → ℕ) → ℕ → Bool
fresh tag i = cond (eqb (tag i) 0) false (opens tag i)

module _ (tag : ℕ → ℕ) (i : ℕ) where
  fresh-none : tag i ≡ 0 → fresh tag i ≡ false
  unfolding fresh
  fresh-none e = rw (eq-eqb (tag i) 0 e)

  fresh-is : (tag i ≡ 0 → ⊥) → fresh tag i ≡ opens tag i
  unfolding fresh
  fresh-is h = rw (ne_eqb (tag i) 0 h)

  fresh-tagged : fresh tag i ≡ true → tag i ≡ 0 → ⊥
  fresh-tagged f e = untrue (sym (fresh-none e) ∙ f)

  fresh-opens : fresh tag i ≡ true → opens tag i ≡ true
  fresh-opens f = sym (fresh-is (fresh-tagged f)) ∙ f

  fresh-again : (x j : ℕ) → j < i → tag j ≡ x → tag i ≡ x → fresh tag i ≡ false
  fresh-again x j l e q = go (fresh tag i) refl
    where
      go : (b : Bool) → fresh tag i ≡ b → fresh tag i ≡ false
      go false f = f
      go true f = absurd (open-without tag i (fresh-opens f) j l (e ∙ sym q))

-- ---- the number, from 1, of the last of n entries that is fresh and whose tag has the remainder b; 0 for none
unfoldable pub newest : (ℕ → ℕ) → ℕ → ℕ → ℕ → ℕ
newest tag m b zero = 0
newest tag m b (suc n) = cond (fresh tag n && eqb (tag n % m) b) (suc n) (newest tag m b n)

module _ (tag : ℕ → ℕ) (m b : ℕ) where
  new-here : (n : ℕ) → fresh tag n ≡ true → tag n % m ≡ b → newest tag m b (suc n) ≡ suc n
  unfolding newest
  new-here n o e = rw (o, eq-eqb (tag n % m) b e)

  new-shut : (n : ℕ) → fresh tag n ≡ false → newest tag m b (suc n) ≡ newest tag m b n
  unfolding newest
  new-shut n o = rw o

  new-other : (n : ℕ) → (tag n % m ≡ b → ⊥) → newest tag m b (suc n) ≡ newest tag m b n
  unfolding newest
  new-other n h = rw (ne_eqb (tag n % m) b h) (go (fresh tag n))
    where
      go : (o : Bool) → cond (o && false) (suc n) (newest tag m b n) ≡ newest tag m b n
      go true = refl
      go false = refl

  new-some : (n i : ℕ) → newest tag m b n ≡ suc i → (i < n) × (fresh tag i ≡ true) × (tag i % m ≡ b)
  unfolding newest
  new-some zero i e = absurd (omega arith)
  new-some (suc n) i e = go (fresh tag n) refl (ℕ_discrete (tag n % m) b) (new-some n i)
    where
      late : (newest tag m b n ≡ suc i → (i < n) × (fresh tag i ≡ true) × (tag i % m ≡ b)) → newest tag m b n ≡ suc i → (i < suc n) × (fresh tag i ≡ true) × (tag i % m ≡ b)
      late before q = let s = before q in (omega (arith, s.0), s.1, s.2)

      go : (o : Bool) → fresh tag n ≡ o → Dec (tag n % m ≡ b) → (newest tag m b n ≡ suc i → (i < n) × (fresh tag i ≡ true) × (tag i % m ≡ b)) → (i < suc n) × (fresh tag i ≡ true) × (tag i % m ≡ b)
      go true o (yes k) before =
          let q : suc n ≡ suc i = sym (new-here n o k) ∙ e in
          let same : i ≡ n = omega arith in
          rw same (omega arith, o, k)
      go true o (no k) before = late before (sym (new-other n k) ∙ e)
      go false o k before = late before (sym (new-shut n o) ∙ e)

  new-le : (n : ℕ) → newest tag m b n ≤ n
  new-le n = go (newest tag m b n) refl
    where
      go : (r : ℕ) → newest tag m b n ≡ r → newest tag m b n ≤ n
      go zero e = omega arith
      go (suc i) e = omega (arith, (new-some n i e).0)

  -- no fresh entry of the remainder stands behind it
  new-top : (n k : ℕ) → k < n → fresh tag k ≡ true → tag k % m ≡ b → suc k ≤ newest tag m b n
  new-top zero k l o e = absurd (not-suc-le-zero l)
  new-top (suc n) k l o e = go (fresh tag n) refl (ℕ_discrete (tag n % m) b) (dec_lt k n) (new-top n k)
    where
      go : (w : Bool) → fresh tag n ≡ w → Dec (tag n % m ≡ b) → Dec (k < n) → (k < n → fresh tag k ≡ true → tag k % m ≡ b → suc k ≤ newest tag m b n) → suc k ≤ newest tag m b (suc n)
      go true w (yes q) d before = rw (new-here n w q) (omega arith)
      go true w (no q) (yes d) before = rw (new-other n q) (before d o e)
      go true w (no q) (no d) before = let same : k ≡ n = omega arith in absurd (q (ap (λ (j : ℕ). tag j % m) (sym same) ∙ e))
      go false w q (yes d) before = rw (new-shut n w) (before d o e)
      go false w q (no d) before = let same : k ≡ n = omega arith in absurd (true≢false (sym o ∙ ap (fresh tag) same ∙ w))

-- ---- the lists
-- the tags of the entries, by the records that they name
abbrev pub tags : (ℕ → ℕ) → (ℕ → ℕ) → ℕ → ℕ
tags entry mark j = mark (entry j)

-- the record that the entry with a number from 1 names, 0 for none
abbrev pub at : (ℕ → ℕ) → ℕ → ℕ
at entry zero = 0
at entry (suc j) = entry j

-- a bound of what entries name is one of it
pub at-below : (entry : ℕ → ℕ) (bound : ℕ) → 0 < bound → ((j : ℕ) → entry j < bound) → (s : ℕ) → at entry s < bound
at-below entry bound some all zero = some
at-below entry bound some all (suc j) = all j

-- the number, from 1, of the first of n entries that names a record
unfoldable pub place : (ℕ → ℕ) → ℕ → ℕ → ℕ
place entry n zero = 0
place entry n (suc k) = first_of entry (suc k) n

-- the lists of the first m entries, by the remainders of their tags by h. The link of a fresh entry's record is 1 more than the record that
-- it leads to, and each record whose link is not 0 is named by an entry
pub record Linked (entry mark : ℕ → ℕ) (h m : ℕ) (tops links : List ℕ) : Type 0 where
  pub some : 0 < h
  pub wide : length tops ≡ h
  pub top : (b : ℕ) → b < h → get_or tops b 0 ≡ at entry (newest (tags entry mark) h b m)
  pub below : (j : ℕ) → j < m → fresh (tags entry mark) j ≡ true → get_or links (entry j) 0 ≡ 1 + at entry (newest (tags entry mark) h (tags entry mark j % h) j)
  pub met : (r : ℕ) → (get_or links r 0 ≡ 0 → ⊥) → (j : ℕ) × (j < m) × (entry j ≡ r)

-- a walk for a tag stands at a record: 0, or that of a fresh entry of the tag's remainder, and no entry behind that one brings the tag
pub record Walks (entry mark : ℕ → ℕ) (h m x k : ℕ) : Type 0 where
  pub stands : ℕ
  pub is : k ≡ at entry stands
  pub inside : stands ≤ m
  pub on : (i : ℕ) → stands ≡ suc i → (fresh (tags entry mark) i ≡ true) × (tags entry mark i % h ≡ x % h)
  pub none : (i : ℕ) → i < m → stands ≤ i → fresh (tags entry mark) i ≡ true → tags entry mark i ≡ x → ⊥

module _ (entry mark : ℕ → ℕ) (nothing : mark 0 ≡ 0) (m : ℕ) where
  -- the number of a record with a tag is not 0
  named : (i : ℕ) → fresh (tags entry mark) i ≡ true → entry i ≡ 0 → ⊥
  named i f e = fresh-tagged (tags entry mark) i f (ap mark e ∙ nothing)

  -- and the entry is the first to name it
  place_is : (n i k : ℕ) → i < n → fresh (tags entry mark) i ≡ true → k ≡ entry i → place entry n k ≡ suc i
  unfolding place
  place_is n i zero l f e = absurd (named i f (sym e))
  place_is n i (suc k) l f e =
      to-first entry (suc k) n i l (sym e)
      (λ (j : ℕ) (b : j < i) (q : entry j ≡ suc k). open-without (tags entry mark) i (fresh-opens (tags entry mark) i f) j b (ap mark (q ∙ e)))

  module _ (h x : ℕ) where
    walks_from : (k j : ℕ) → j ≤ m → k ≡ at entry (newest (tags entry mark) h (x % h) j) → ((i : ℕ) → i < m → j ≤ i → fresh (tags entry mark) i ≡ true → tags entry mark i ≡ x → ⊥) → Walks entry mark h m x k
    walks_from k j l e late =
        record {
          stands = newest (tags entry mark) h (x % h) j;
          is = e;
          inside = omega (arith, new-le (tags entry mark) h (x % h) j);
          on = λ i q. let s = new-some (tags entry mark) h (x % h) j i q in (s.1, s.2);
          none = λ i b r f q. go i b r f q (dec_lt i j);
        }
      where
        go : (i : ℕ) → i < m → newest (tags entry mark) h (x % h) j ≤ i → fresh (tags entry mark) i ≡ true → tags entry mark i ≡ x → Dec (i < j) → ⊥
        go i b r f q (yes d) = omega (arith, new-top (tags entry mark) h (x % h) j i d f (ap (λ (y : ℕ). y % h) q))
        go i b r f q (no d) = late i b (omega arith) f q

    -- where it stands
    pub standing : (k : ℕ) → (k ≡ 0 → ⊥) → (w : Walks entry mark h m x k) → (i : ℕ) × (w.stands ≡ suc i) × (k ≡ entry i)
    standing k s w = go w.stands refl
      where
        go : (j : ℕ) → w.stands ≡ j → (i : ℕ) × (w.stands ≡ suc i) × (k ≡ entry i)
        go zero e = absurd (s (w.is ∙ ap (at entry) e))
        go (suc i) e = (i, e, w.is ∙ ap (at entry) e)

    -- the record there has a tag
    pub standing-tagged : (k : ℕ) → (k ≡ 0 → ⊥) → Walks entry mark h m x k → mark k ≡ 0 → ⊥
    standing-tagged k s w z =
        let d = standing k s w in
        fresh-tagged (tags entry mark) d.0 (w.on d.0 d.1).0 (sym (ap mark d.2) ∙ z)

    -- at 0 no entry has the tag
    pub walks-out : (k : ℕ) → k ≡ 0 → (x ≡ 0 → ⊥) → Walks entry mark h m x k → Without (tags entry mark) x m
    walks-out k z t w j l q = go w.stands refl (first_of (tags entry mark) x m) refl
      where
        go : (e : ℕ) → w.stands ≡ e → (f : ℕ) → first_of (tags entry mark) x m ≡ f → ⊥
        go (suc i) e f g = named i (w.on i e).0 (sym (w.is ∙ ap (at entry) e) ∙ z)
        go zero e zero g = first-none (tags entry mark) x m g j l q
        go zero e (suc i) g =
            let s = first_some (tags entry mark) x m i g in
            w.none i s.0 (omega arith)
            (fresh-is (tags entry mark) i (λ (y : tags entry mark i ≡ 0). t (sym s.1 ∙ y)) ∙ first-opens (tags entry mark) i x m g)
            s.1

  module _ (h : ℕ) (tops links : List ℕ) (c : Linked entry mark h m tops links) (x : ℕ) where
    pub walk_begins : Walks entry mark h m x (get_or tops (x % h) 0)
    walk_begins = walks_from h x _ m (omega arith) (c.top (x % h) (mod-lt x c.some)) (λ i b r f q. omega arith)

    module _ (k : ℕ) (s : k ≡ 0 → ⊥) (w : Walks entry mark h m x k) where
      link_at : (i : ℕ) → w.stands ≡ suc i → k ≡ entry i → get_or links k 0 ≡ 1 + at entry (newest (tags entry mark) h (x % h) i)
      link_at i e q =
          let o = w.on i e in
          ap (λ (r : ℕ). get_or links r 0) q
          ∙ c.below i (omega (arith, w.inside, e)) o.0
          ∙ ap (λ (b : ℕ). 1 + at entry (newest (tags entry mark) h b i)) o.1

      link-is : (i : ℕ) → w.stands ≡ suc i → k ≡ entry i → get_or links k 0 - 1 ≡ at entry (newest (tags entry mark) h (x % h) i)
      link-is i e q = omega (arith, link_at i e q)

      -- the record there has a link
      pub walk-linked : 1 ≤ get_or links k 0
      walk-linked = let d = standing h x k s w in omega (arith, link_at d.0 d.1 d.2)

      pub walk-goes : (mark k ≡ x → ⊥) → Walks entry mark h m x (get_or links k 0 - 1)
      walk-goes other =
          let d = standing h x k s w in
          walks_from h x (get_or links k 0 - 1) d.0 (omega (arith, w.inside, d.1)) (link-is d.0 d.1 d.2)
          (λ i b r f q. later d.0 d.1 d.2 i b r f q (ℕ_discrete i d.0))
        where
          later : (a : ℕ) → w.stands ≡ suc a → k ≡ entry a → (i : ℕ) → i < m → a ≤ i → fresh (tags entry mark) i ≡ true → tags entry mark i ≡ x → Dec (i ≡ a) → ⊥
          later a e g i b r f q (yes z) = other (ap mark (g ∙ ap entry (sym z)) ∙ q)
          later a e g i b r f q (no z) = w.none i b (omega arith) f q

      -- the place of the entry falls
      pub walk-falls : (n : ℕ) → m ≤ n → place entry n (get_or links k 0 - 1) < place entry n k
      unfolding place
      walk-falls n l =
          let d = standing h x k s w in
          go d.0 d.1 d.2 (newest (tags entry mark) h (x % h) d.0) refl
        where
          go : (a : ℕ) → w.stands ≡ suc a → k ≡ entry a → (r : ℕ) → newest (tags entry mark) h (x % h) a ≡ r → place entry n (get_or links k 0 - 1) < place entry n k
          go a e g zero q =
              rw (link-is a e g ∙ ap (at entry) q, place_is n a k (omega (arith, w.inside, e)) (w.on a e).0 g) (omega arith)
          go a e g (suc i) q =
              let t = new-some (tags entry mark) h (x % h) a i q in
              rw (place_is n i (get_or links k 0 - 1) (omega (arith, t.0, w.inside, e)) t.1 (link-is a e g ∙ ap (at entry) q), place_is n a k (omega (arith, w.inside, e)) (w.on a e).0 g) (omega (arith, t.0))

-- ---- one entry more
pub linked-start : (entry mark : ℕ → ℕ) (h : ℕ) (tops links : List ℕ) → 0 < h → length tops ≡ h → Blank tops → Blank links → Linked entry mark h 0 tops links
unfolding newest
linked-start entry mark h tops links some wide blank new =
    record { some = some; wide = wide; top = λ i l. blank i; below = λ j l f. absurd (not-suc-le-zero l); met = λ r q. absurd (q (new r)) }

module _ (entry mark : ℕ → ℕ) (h m : ℕ) (tops links : List ℕ) (c : Linked entry mark h m tops links) where
  -- that is not fresh, with the same links under the records of those that are
  linked-stays : (links' : List ℕ) → fresh (tags entry mark) m ≡ false
      → ((j : ℕ) → j < m → fresh (tags entry mark) j ≡ true → get_or links' (entry j) 0 ≡ get_or links (entry j) 0)
      → ((r : ℕ) → (get_or links' r 0 ≡ 0 → ⊥) → (j : ℕ) × (j < suc m) × (entry j ≡ r)) → Linked entry mark h (suc m) tops links'
  linked-stays links' s same met =
      record {
        some = c.some;
        wide = c.wide;
        top = λ b l. c.top b l ∙ ap (at entry) (sym (new-shut (tags entry mark) h b m s));
        below = λ j l f. go j l f (dec_lt j m);
        met = met;
      }
    where
      go : (j : ℕ) → j < suc m → fresh (tags entry mark) j ≡ true → Dec (j < m) → get_or links' (entry j) 0 ≡ 1 + at entry (newest (tags entry mark) h (tags entry mark j % h) j)
      go j l f (yes d) = same j d f ∙ c.below j d f
      go j l f (no d) = let same : j ≡ m = omega arith in untrue (sym s ∙ ap (fresh (tags entry mark)) (sym same) ∙ f)

  -- with one entry more, still each record whose link is not 0 is named by an entry; and also when the new entry's record is given a link
  met-more : (r : ℕ) → (get_or links r 0 ≡ 0 → ⊥) → (j : ℕ) × (j < suc m) × (entry j ≡ r)
  met-more r q = let d = c.met r q in (d.0, omega (arith, d.1), d.2)

  met-set : (v r : ℕ) → (get_or (set links (entry m) v) r 0 ≡ 0 → ⊥) → (j : ℕ) × (j < suc m) × (entry j ≡ r)
  met-set v r q = go (ℕ_discrete r (entry m))
    where
      go : Dec (r ≡ entry m) → (j : ℕ) × (j < suc m) × (entry j ≡ r)
      go (yes e) = (m, omega arith, sym e)
      go (no e) = met-more r (λ (z : get_or links r 0 ≡ 0). q (get_or-set_other links (entry m) r v 0 e ∙ z))

  pub linked-plain : tags entry mark m ≡ 0 → Linked entry mark h (suc m) tops links
  linked-plain e = linked-stays links (fresh-none (tags entry mark) m e) (λ j l f. refl) met-more

  module _ (x j : ℕ) (l : j < m) (e : tags entry mark j ≡ x) (q : tags entry mark m ≡ x) where
    pub linked-again : Linked entry mark h (suc m) tops links
    linked-again = linked-stays links (fresh-again (tags entry mark) m x j l e q) (λ i b f. refl) met-more

    -- and whose record had no link
    pub linked-marked : (v : ℕ) → get_or links (entry m) 0 ≡ 0 → Linked entry mark h (suc m) tops (set links (entry m) v)
    linked-marked v unmet = linked-stays (set links (entry m) v) (fresh-again (tags entry mark) m x j l e q) stay (met-set v)
      where
        stay : (i : ℕ) → i < m → fresh (tags entry mark) i ≡ true → get_or (set links (entry m) v) (entry i) 0 ≡ get_or links (entry i) 0
        stay i b f =
            get_or-set_other links (entry m) (entry i) v 0
            (λ (z : entry i ≡ entry m). omega (arith, c.below i b f, ap (λ (r : ℕ). get_or links r 0) z, unmet))

  -- that is fresh
  pub linked-new : (x : ℕ) → tags entry mark m ≡ x → (x ≡ 0 → ⊥) → Without (tags entry mark) x m → entry m < length links
      → Linked entry mark h (suc m) (set tops (x % h) (entry m)) (set links (entry m) (1 + get_or tops (x % h) 0))
  linked-new x e t none room =
      record {
        some = c.some;
        wide = length-set tops (x % h) (entry m) ∙ c.wide;
        top = λ b l. tops_are b l (ℕ_discrete b (x % h));
        below = λ j l f. links-are j l f (dec_lt j m);
        met = met-set (1 + get_or tops (x % h) 0);
      }
    where
      small : x % h < h
      small = mod-lt x c.some

      new : fresh (tags entry mark) m ≡ true
      new =
          fresh-is (tags entry mark) m (λ (z : tags entry mark m ≡ 0). t (sym e ∙ z))
          ∙ opening (tags entry mark) m (λ (j : ℕ) (l : j < m) (q : tags entry mark j ≡ tags entry mark m). none j l (q ∙ e))

      tops_are : (b : ℕ) → b < h → Dec (b ≡ x % h) → get_or (set tops (x % h) (entry m)) b 0 ≡ at entry (newest (tags entry mark) h b (suc m))
      tops_are b l (yes q) =
          ap (λ (i : ℕ). get_or (set tops (x % h) (entry m)) i 0) q
          ∙ get_or-set_same tops (x % h) (entry m) 0 (omega (arith, small, c.wide))
          ∙ ap (at entry) (sym (new-here (tags entry mark) h b m new (ap (λ (y : ℕ). y % h) e ∙ sym q)))
      tops_are b l (no q) =
          get_or-set_other tops (x % h) b (entry m) 0 q
          ∙ c.top b l
          ∙ ap (at entry) (sym (new-other (tags entry mark) h b m (λ (z : tags entry mark m % h ≡ b). q (sym z ∙ ap (λ (y : ℕ). y % h) e))))

      links-are : (j : ℕ) → j < suc m → fresh (tags entry mark) j ≡ true → Dec (j < m)
          → get_or (set links (entry m) (1 + get_or tops (x % h) 0)) (entry j) 0 ≡ 1 + at entry (newest (tags entry mark) h (tags entry mark j % h) j)
      links-are j l f (yes d) =
          get_or-set_other links (entry m) (entry j) (1 + get_or tops (x % h) 0) 0 (λ (q : entry j ≡ entry m). none j d (ap mark q ∙ e))
          ∙ c.below j d f
      links-are j l f (no d) =
          let same : j ≡ m = omega arith in
          ap (λ (i : ℕ). get_or (set links (entry m) (1 + get_or tops (x % h) 0)) (entry i) 0) same
          ∙ get_or-set_same links (entry m) (1 + get_or tops (x % h) 0) 0 room
          ∙ ap (λ (y : ℕ). 1 + y) (c.top (x % h) small)
          ∙ ap (λ (y : ℕ). 1 + at entry (newest (tags entry mark) h (y % h) m)) (sym e)
          ∙ ap (λ (i : ℕ). 1 + at entry (newest (tags entry mark) h (tags entry mark i % h) i)) (sym same)
