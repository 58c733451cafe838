-- Each return of judging is a case of the definition. Assumes nothing.
use mathlib.Core.Path.{◌≡◌, sym, ap, ◌∙◌}
use mathlib.Core.Bool.{true, false}
use mathlib.Core.List.{List}
use Prim.Native.Nat.{ℕ, suc, ◌<◌}
use native.Mathlib.Omega.{arith}
use borrow.Author.Tests.{ne_eqb}
use lib.IntN.{ℤ}
use lib.ListN.{length, get_or}
use Rattle.records.specs.Layout.{mark_code, mark_of, three}
use Rattle.pool.specs.Reading.{Entry}
use Rattle.pool.specs.Walk.{entries_of}
use Rattle.naming.specs.Naming.{kind_of}
use Rattle.naming.proofs.Starts.{start-read, kind-is}
use Rattle.queries.specs.Queries.{start_of}
use Rattle.messages.specs.Layout.{is_value_carrier}
use Rattle.judging.specs.Judging.{element_for, object_for, properties_in, triggers_in, error_of_object, error_of}
use Rattle.judging.proofs.Found.{element-listed, object-listed}

-- ---- the error byte, by the element and the object that have been found

module _ (p : List ℕ) (es : List Entry) (command element ddi : ℕ) (value : ℤ) where
  pub no-command : is_value_carrier command ≡ false → 1 ≡ error_of p es command element ddi value
  unfolding error_of
  no-command t = rw t

  module _ (carries : is_value_carrier command ≡ true) where
    pub no_element : element_for p es element ≡ 0 → 2 ≡ error_of p es command element ddi value
    unfolding error_of
    no_element e = rw (carries, e)

    module _ (some : element_for p es element ≡ 0 → ⊥) where
      pub no_object : object_for p es (start_of es (element_for p es element)) ddi ≡ 0 → 4 ≡ error_of p es command element ddi value
      unfolding error_of
      no_object e = rw (carries, ne_eqb (element_for p es element) 0 some, e)

      pub of-object : (object : ℕ) → object ≡ object_for p es (start_of es (element_for p es element)) ddi → (object ≡ 0 → ⊥)
          → error_of_object (properties_in p (kind_of es object) (start_of es object)) (triggers_in p (kind_of es object) (start_of es object)) command value ≡ error_of p es command element ddi value
      unfolding error_of
      of-object object e h = rw (carries, ne_eqb (element_for p es element) 0 some, ← e, ne_eqb object 0 h)

-- the same, where the element and the object have been found by the starts
module _ (p starts : List ℕ) (first : 0 < length starts) (command element ddi : ℕ) (value : ℤ) (carries : is_value_carrier command ≡ true)
    (owner : ℕ) (found : element_for p (entries_of p starts) element ≡ suc owner) where
  pub element-inside : suc owner < length starts
  element-inside = rw (← found) (element-listed p starts first element)

  there : element_for p (entries_of p starts) element ≡ 0 → ⊥
  there z = omega (arith, z, found)

  owner-start : get_or starts owner 0 ≡ start_of (entries_of p starts) (element_for p (entries_of p starts) element)
  owner-start = start-read p starts owner element-inside ∙ ap (start_of (entries_of p starts)) (sym found)

  pub object-missing : object_for p (entries_of p starts) (get_or starts owner 0) ddi ≡ 0 → 4 ≡ error_of p (entries_of p starts) command element ddi value
  object-missing z = no_object p (entries_of p starts) command element ddi value carries there (ap (λ (a : ℕ). object_for p (entries_of p starts) a ddi) (sym owner-start) ∙ z)

  module _ (object : ℕ) (is : object_for p (entries_of p starts) (get_or starts owner 0) ddi ≡ suc object) where
    pub object-inside : suc object < length starts
    object-inside = rw (← is) (object-listed p starts first (get_or starts owner 0) ddi)

    pub object-found : (kind properties triggers error : ℕ) → kind ≡ mark_code (mark_of (three p (get_or starts object 0)))
        → properties ≡ properties_in p kind (get_or starts object 0) → triggers ≡ triggers_in p kind (get_or starts object 0)
        → error ≡ error_of_object properties triggers command value → error ≡ error_of p (entries_of p starts) command element ddi value
    object-found kind properties triggers error k a b e =
        let es = entries_of p starts in
        let start = get_or starts object 0 in
        let k' : kind ≡ kind_of es (suc object) = k ∙ kind-is p starts object object-inside in
        let s' : start ≡ start_of es (suc object) = start-read p starts object object-inside in
        e
        ∙ ap (λ (x : ℕ). error_of_object x triggers command value) (a ∙ ap (λ (x : ℕ). properties_in p x start) k' ∙ ap (properties_in p (kind_of es (suc object))) s')
        ∙ ap (λ (x : ℕ). error_of_object (properties_in p (kind_of es (suc object)) (start_of es (suc object))) x command value) (b ∙ ap (λ (x : ℕ). triggers_in p x start) k' ∙ ap (triggers_in p (kind_of es (suc object))) s')
        ∙ of-object p es command element ddi value carries there (suc object) (sym is ∙ ap (λ (x : ℕ). object_for p es x ddi) owner-start) (λ (z : suc object ≡ 0). omega (arith, z))
