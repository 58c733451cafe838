-- Marks for the keys of the first records, and for the records for which a test holds. Assumes nothing.
use mathlib.Core.Path.{◌≡◌, sym, ap, ◌∙◌}
use mathlib.Core.Bool.{Bool, true, false, not, ◌&&◌, ◌||◌}
use mathlib.Core.List.{List}
use Prim.Native.Nat.{ℕ, suc, ◌+◌, ◌*◌, ◌≤◌, ◌<◌}
use native.Mathlib.Decide.{ℕ_discrete, dec_lt}
use native.Mathlib.Omega.{arith}
use borrow.Author.Tests.{eq-eqb, ne_eqb, lt-ltb, le-ltb}
use lib.Dec.{eqb, ltb}
use lib.ListN.{length}
use Rattle.marks.specs.Bits.{bit_at}
use Rattle.marks.proofs.Marking.{blank-bits}
use Rattle.views.specs.Fields.{element_of}
use Rattle.pool.specs.Reading.{Entry}
use Rattle.naming.specs.Records.{start_at, kind_at}
use Rattle.naming.specs.Naming.{first_of}
use Rattle.naming.specs.Lists.{Blank}
use Rattle.naming.specs.Chained.{opens}
use Rattle.naming.proofs.First.{first-other, first-kept, first-here}
use Rattle.naming.proofs.Chained.{opens-first}
use Rattle.rules.specs.Table.{repeats, element_key}
use Rattle.rules.proofs.Repeats.{element-key}
use Rattle.chains.specs.Noted.{Noted, HitsMarked}

-- a list with one number marked more
abbrev Adds : List ℕ → ℕ → List ℕ → Type 0
Adds before i after = (j : ℕ) → j < 8 * length before → bit_at after j ≡ (eqb j i || bit_at before j)

-- ---- marks under keys

module _ (bound : ℕ) (key : ℕ → ℕ) where
  pub noted-start : (numbers : List ℕ) → Blank numbers → Noted bound key 0 numbers
  unfolding first_of
  noted-start numbers blank x l = blank-bits numbers blank x

  module _ (i : ℕ) (numbers : List ℕ) (noted : Noted bound key i numbers) where
    -- a record without a key
    pub noted_other : key i ≡ 0 → Noted bound key (i + 1) numbers
    noted_other e x l =
        noted x l ∙ ap (λ (r : ℕ). not (eqb r 0)) (sym (first-other key (suc x) i (λ (q : key i ≡ suc x). omega (arith, e, q))))

    module _ (x : ℕ) (has : key i ≡ suc x) where
      -- the mark that is there tells whether an earlier record has the key
      pub noted-repeats : x < bound → (n : ℕ) → i < n → bit_at numbers x ≡ repeats key (key i) i n
      unfolding repeats opens
      noted-repeats l n b =
          noted x l ∙ ap (λ (y : ℕ). not (eqb (first_of key y i) 0)) (sym has) ∙ ap not (opens-first key i n b)

      first-same : (y : ℕ) → y ≡ x → not (eqb (first_of key (suc y) (i + 1)) 0) ≡ true
      first-same y e = rw e (go (ℕ_discrete (first_of key (suc x) i) 0))
        where
          go : Dec (first_of key (suc x) i ≡ 0) → not (eqb (first_of key (suc x) (i + 1)) 0) ≡ true
          go (yes z) = rw (first-here key (suc x) i z has, ne_eqb (i + 1) 0 (λ (q : i + 1 ≡ 0). omega arith))
          go (no d) = rw (first-kept key (suc x) i d, ne_eqb (first_of key (suc x) i) 0 d)

      pub noted_more : bound ≤ 8 * length numbers → (after : List ℕ) → Adds numbers x after → Noted bound key (i + 1) after
      noted_more room after adds y l = go (ℕ_discrete y x)
        where
          go : Dec (y ≡ x) → bit_at after y ≡ not (eqb (first_of key (suc y) (i + 1)) 0)
          go (yes e) = adds y (omega arith) ∙ rw (eq-eqb y x e) (sym (first-same y e))
          go (no d) =
              adds y (omega arith) ∙ rw (ne_eqb y x d)
              (noted y l ∙ ap (λ (r : ℕ). not (eqb r 0)) (sym (first-other key (suc y) i (λ (q : key i ≡ suc y). d (omega (arith, has, q))))))

-- ---- the numbers of device elements

module _ (bound : ℕ) (p : List ℕ) (es : List Entry) (i : ℕ) (numbers : List ℕ) (noted : Noted bound (element_key p es) i numbers) where
  -- another record has none
  pub element-passed : (kind_at es i ≡ 2 → ⊥)
      → (false ≡ (eqb (kind_at es i) 2 && repeats (element_key p es) (element_key p es i) i (length es))) × Noted bound (element_key p es) (i + 1) numbers
  element-passed k = (rw (ne_eqb (kind_at es i) 2 k), noted_other bound (element_key p es) i numbers noted (rw (ne_eqb (kind_at es i) 2 k)))

  module _ (x : ℕ) (own : kind_at es i ≡ 2) (is : x ≡ (element_of p (start_at es i)).number) where
    has : element_key p es i ≡ suc x
    has = element-key p es i own ∙ ap suc (sym is)

    pub element-repeats : x < bound → i < length es
        → bit_at numbers x ≡ (eqb (kind_at es i) 2 && repeats (element_key p es) (element_key p es i) i (length es))
    element-repeats l b = noted-repeats bound (element_key p es) i numbers noted x has l (length es) b ∙ rw (eq-eqb (kind_at es i) 2 own)

    pub element-noted : bound ≤ 8 * length numbers → (after : List ℕ) → Adds numbers x after → Noted bound (element_key p es) (i + 1) after
    element-noted room after adds = noted_more bound (element_key p es) i numbers noted x has room after adds

-- ---- marks under records

module _ (test : ℕ → Bool) where
  pub marked_start : (marks : List ℕ) → Blank marks → HitsMarked test 0 marks
  marked_start marks blank j l = rw (le-ltb j 0 (omega arith)) (blank-bits marks blank j)

  pub marked-is : (n : ℕ) (marks : List ℕ) → HitsMarked test n marks → (j : ℕ) → j < n → j < 8 * length marks → bit_at marks j ≡ test j
  marked-is n marks marked j l b = rw (lt-ltb j n l) at (marked j b)

  module _ (i : ℕ) (marks : List ℕ) (marked : HitsMarked test i marks) where
    -- what a number more says of each: below it as before, of it what the test says
    one_more : (j : ℕ) → (j ≡ i → ⊥) → ltb j (i + 1) ≡ ltb j i
    one_more j d = go (dec_lt j i)
      where
        go : Dec (j < i) → ltb j (i + 1) ≡ ltb j i
        go (yes l) = lt-ltb j (i + 1) (omega arith) ∙ sym (lt-ltb j i l)
        go (no l) = le-ltb j (i + 1) (omega arith) ∙ sym (le-ltb j i (omega arith))

    pub marked-pass : test i ≡ false → HitsMarked test (i + 1) marks
    marked-pass t j l = go (ℕ_discrete j i)
      where
        go : Dec (j ≡ i) → bit_at marks j ≡ (ltb j (i + 1) && test j)
        go (yes e) = marked j l ∙ rw (e, le-ltb i i (omega arith), lt-ltb i (i + 1) (omega arith)) (sym t)
        go (no d) = marked j l ∙ ap (λ (b : Bool). b && test j) (sym (one_more j d))

    pub marked-hit : test i ≡ true → (after : List ℕ) → length after ≡ length marks → Adds marks i after → HitsMarked test (i + 1) after
    marked-hit t after same adds j l = go (ℕ_discrete j i)
      where
        inside : j < 8 * length marks
        inside = omega (arith, same)

        go : Dec (j ≡ i) → bit_at after j ≡ (ltb j (i + 1) && test j)
        go (yes e) = adds j inside ∙ rw (eq-eqb j i e, e, lt-ltb i (i + 1) (omega arith)) (sym t)
        go (no d) = adds j inside ∙ rw (ne_eqb j i d) (marked j inside ∙ ap (λ (b : Bool). b && test j) (sym (one_more j d)))
