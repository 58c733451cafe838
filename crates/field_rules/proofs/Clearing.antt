-- What shows that a record has no fault. Assumes nothing.
use mathlib.Core.Path.{◌≡◌, refl, sym, ap, ◌∙◌}
use mathlib.Core.Bool.{Bool, true, false, not, ◌&&◌, ◌||◌, true≢false, and-false}
use mathlib.Core.Logic.{⊎_elim}
use mathlib.Core.List.{List, ◌++◌}
use Prim.Native.Nat.{ℕ, zero, suc, ◌+◌, ◌<◌}
use native.Mathlib.Decide.{ℕ_discrete}
use native.Mathlib.Nat.{eq-or-lt_of_le}
use native.Mathlib.Omega.{arith}
use borrow.Author.Count.{below_more}
use borrow.Author.Tests.{eq-eqb, ne_eqb, not-true}
use lib.Dec.{eqb, ltb, leb}
use lib.ListN.{length, get_or, set}
use lib.Seq.{get_or-set_same, get_or-set_other}
use Rattle.records.specs.declared.Span.{Span}
use Rattle.records.specs.declared.DeviceElement.{DeviceElement}
use Rattle.records.specs.declared.ProcessData.{ProcessData}
use Rattle.records.specs.declared.Property.{Property}
use Rattle.records.specs.declared.ValuePresentation.{ValuePresentation}
use Rattle.views.specs.Fields.{part_of, element_of}
use Rattle.text.specs.Examined.{sound_text}
use Rattle.faults.specs.Rows.{AllClear}
use Rattle.faults.proofs.Clearing.{clear-then}
use Rattle.pool.specs.Reading.{Entry}
use Rattle.naming.specs.Records.{start_at}
use Rattle.naming.specs.Naming.{named, kind_of, parent_of, climb, is_data_kind, tag_of, among}
use Rattle.rules.specs.Table.{unsound, bad_scale, bad_source, is_parent_kind, repeats, doubled, element_key, entry_named, field_rows, reference_rows, list_rows, element_rows, data_rows, property_rows, value_rows}
use Rattle.rules.proofs.Truth.{untrue, to-left, to-right}
use Rattle.field_rules.specs.Clean.{Apart}

-- ---- tests that deny a breach

pub sound-clear : (p : List ℕ) (s : Span) → sound_text (part_of p s) ≡ true → unsound p s ≡ false
unfolding unsound
sound-clear p s e = rw e

-- neither of two tests hits
pub clear_both : (a b : Bool) → a || b ≡ false → (a ≡ false) × (b ≡ false)
clear_both true b e = absurd (true≢false e)
clear_both false b e = (refl, e)

pub data-clear : (p : List ℕ) (d : ProcessData) → not (ltb 7 d.properties || bad_source d.properties || ltb 31 d.triggers) ≡ true
    → sound_text (part_of p d.designator) ≡ true → AllClear (data_rows p d)
data-clear p d fit sound =
    let all = clear_both (ltb 7 d.properties || bad_source d.properties) (ltb 31 d.triggers) (not-true _ fit) in
    let bits = clear_both (ltb 7 d.properties) (bad_source d.properties) all.0 in
    (λ m l. sound-clear p d.designator sound, (λ m l. bits.0, (λ m l. bits.1, (λ m l. all.1, tt))))

pub property-clear : (p : List ℕ) (d : Property) → sound_text (part_of p d.designator) ≡ true → AllClear (property_rows p d)
property-clear p d sound = (λ m l. sound-clear p d.designator sound, tt)

pub value-clear : (p : List ℕ) (v : ValuePresentation) → not (bad_scale v.scale || ltb 7 v.decimals) ≡ true → sound_text (part_of p v.unit) ≡ true → AllClear (value_rows p v)
value-clear p v fit sound =
    let all = clear_both (bad_scale v.scale) (ltb 7 v.decimals) (not-true _ fit) in
    (λ m l. sound-clear p v.unit sound, (λ m l. all.0, (λ m l. all.1, tt)))

-- ---- a device element

pub fields-clear : (p : List ℕ) (e : DeviceElement) → not (not (leb 1 e.element_type && leb e.element_type 7) || ltb 4095 e.number) ≡ true
    → sound_text (part_of p e.designator) ≡ true → AllClear (field_rows p e)
fields-clear p e fit sound =
    let all = clear_both (not (leb 1 e.element_type && leb e.element_type 7)) (ltb 4095 e.number) (not-true _ fit) in
    (λ m l. sound-clear p e.designator sound, (λ m l. all.0, (λ m l. all.1, tt)))

-- a number whose record is a parent, or is data, is not 0
parent-some : (es : List Entry) (r : ℕ) → is_parent_kind (kind_of es r) ≡ true → eqb r 0 ≡ false
parent-some es zero e = untrue e
parent-some es (suc r) e = ne_eqb (suc r) 0 (λ z. omega (arith, z))

data-some : (es : List Entry) (r : ℕ) → is_data_kind (kind_of es r) ≡ true → eqb r 0 ≡ false
data-some es zero e = untrue e
data-some es (suc r) e = ne_eqb (suc r) 0 (λ z. omega (arith, z))

tagged : (p : List ℕ) (es : List Entry) (r : ℕ) → (tag_of p es r ≡ 0 → ⊥) → is_data_kind (kind_of es r) ≡ true
unfolding tag_of
tagged p es r n = go (is_data_kind (kind_of es r)) refl
  where
    go : (t : Bool) → is_data_kind (kind_of es r) ≡ t → t ≡ true
    go true e = refl
    go false e = absurd (n (rw e))

references-clear : (es : List Entry) (parent : ℕ) (entry : ℕ → ℕ) (n : ℕ) → is_parent_kind (kind_of es parent) ≡ true
    → ((m : ℕ) → m < n → is_data_kind (kind_of es (entry m)) ≡ true) → AllClear (reference_rows (kind_of es) parent entry n)
references-clear es parent entry n right all = (
  λ m l. parent-some es parent right,
  (
    λ m l. data-some es (entry m) (all m l),
    (λ m l. rw right (and-false (not (eqb parent 0))), (λ m l. rw (all m l) (and-false (not (eqb (entry m) 0))), tt)),
  ),
)

among_none : (f : ℕ → ℕ) (x n : ℕ) → ((j : ℕ) → j < n → f j ≡ x → ⊥) → among f x n ≡ false
unfolding among
among_none f x zero h = refl
among_none f x (suc n) h =
    rw (among_none f x n (λ (j : ℕ) (l : j < n). h j (omega arith)), ne_eqb (f n) x (h n (omega arith)))

doubled-not : (tag : ℕ → ℕ) (n m : ℕ) → Apart tag n → m < n → doubled tag m ≡ false
unfolding doubled
doubled-not tag n m a l = rw (among_none tag (tag m) m (λ (j : ℕ) (b : j < m). a.apart j m b l)) (and-false (not (eqb (tag m) 0)))

list-clear : (tag : ℕ → ℕ) (n : ℕ) → Apart tag n → (again endless : Bool) → again ≡ false → endless ≡ false → AllClear (list_rows again endless tag n)
list-clear tag n a again endless e f = (λ m l. e, (λ m l. f, (λ m l. doubled-not tag n m a l, tt)))

pub element-clear : (p : List ℕ) (es : List Entry) (i at : ℕ) (e : DeviceElement) → at ≡ start_at es i → e ≡ element_of p at → AllClear (field_rows p e)
    → is_parent_kind (kind_of es (named es e.parent)) ≡ true → repeats (element_key p es) (suc e.number) i (length es) ≡ false
    → not (eqb (climb (parent_of p es) (length es) (suc i)) 0) ≡ false → Apart (λ (m : ℕ). tag_of p es (entry_named p es at m)) e.entries
    → AllClear (element_rows p es i (element_of p (start_at es i)))
element-clear p es i at e starts-at is own parent again endless apart =
    let references = reference_rows (kind_of es) (named es e.parent) (entry_named p es at) e.entries in
    let tag : ℕ → ℕ = λ (m : ℕ). tag_of p es (entry_named p es at m) in
    let list = list_rows (repeats (element_key p es) (suc e.number) i (length es)) (not (eqb (climb (parent_of p es) (length es) (suc i)) 0)) tag e.entries in
    rw (← starts-at, ← is)
    (clear-then (field_rows p e) (references ++ list) own
    (clear-then references list
    (references-clear es (named es e.parent) (entry_named p es at) e.entries parent
    (λ (m : ℕ) (l : m < e.entries). tagged p es (entry_named p es at m) (apart.some m l)))
    (list-clear tag e.entries apart _ _ again endless)))

-- ---- tags one after the other, and the places where they leave the record's number

pub apart_none : (tag : ℕ → ℕ) → Apart tag 0
apart_none tag = record { some = λ m l e. omega (arith, l); apart = λ j m b l e. omega (arith, l) }

-- one tag more, which none before it is
pub apart_more : (tag : ℕ → ℕ) (m : ℕ) → Apart tag m → (tag m ≡ 0 → ⊥) → ((j : ℕ) → j < m → tag j ≡ tag m → ⊥) → Apart tag (m + 1)
apart_more tag m before some new =
    record {
      some = below_more _ _ before.some some;
      apart = λ (j k : ℕ) (b : j < k) (l : k < m + 1). ⊎_elim (λ (s : k ≡ m) (e : tag j ≡ tag k). new j (omega arith) (e ∙ ap tag s)) (λ (s : k < m). before.apart j k b s) (eq-or-lt_of_le (omega arith));
    }

pub record Placed (place tag : ℕ → ℕ) (number m : ℕ) (seen : List ℕ) : Type 0 where
  pub apart : Apart tag m
  pub met : (j : ℕ) → j < m → get_or seen (place (tag j)) 0 ≡ number

pub placed-none : (place tag : ℕ → ℕ) (number : ℕ) (seen : List ℕ) → Placed place tag number 0 seen
placed-none place tag number seen =
    record { apart = apart_none tag; met = λ j l. absurd (omega (arith, l)) }

-- a tag whose place is free is a new one
module _ (place tag : ℕ → ℕ) (number m : ℕ) (seen : List ℕ) (placed : Placed place tag number m seen) where
  pub placed-more : (x : ℕ) → x ≡ tag m → place x < length seen → (x ≡ 0 → ⊥) → (get_or seen (place x) 0 ≡ number → ⊥) → Placed place tag number (m + 1) (set seen (place x) number)
  placed-more x is inside some free =
      record {
        apart = apart_more tag m placed.apart (λ (e : tag m ≡ 0). some (is ∙ e)) new;
        met = λ (j : ℕ) (l : j < m + 1). ⊎_elim (λ (s : j ≡ m). here j s) (λ (s : j < m). there j s (ℕ_discrete (place (tag j)) (place x))) (eq-or-lt_of_le (omega arith));
      }
    where
      new : (j : ℕ) → j < m → tag j ≡ tag m → ⊥
      new j b e =
          let same : tag j ≡ x = e ∙ sym is in
          free (sym (ap (λ (t : ℕ). get_or seen (place t) 0) same) ∙ placed.met j b)

      here : (j : ℕ) → j ≡ m → get_or (set seen (place x) number) (place (tag j)) 0 ≡ number
      here j s =
          let same : tag j ≡ x = ap tag s ∙ sym is in
          rw same (get_or-set_same seen (place x) number 0 inside)

      there : (j : ℕ) → j < m → Dec (place (tag j) ≡ place x) → get_or (set seen (place x) number) (place (tag j)) 0 ≡ number
      there j s (yes e) = rw e (get_or-set_same seen (place x) number 0 inside)
      there j s (no n) = get_or-set_other seen (place x) (place (tag j)) number 0 n ∙ placed.met j s

-- neither of two numbers is as it is asked
pub neither : {a b x y : ℕ} → eqb a x || eqb b y ≡ false → (a ≡ x → ⊥) × (b ≡ y → ⊥)
neither {a} {b} {x} {y} e = (
  λ (s : a ≡ x). true≢false (sym (to-left (eqb b y) (eq-eqb a x s)) ∙ e),
  λ (s : b ≡ y). true≢false (sym (to-right (eqb a x) (eq-eqb b y s)) ∙ e),
)
