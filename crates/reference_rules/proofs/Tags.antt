-- The tag of a record by its number, and those of entries. Assumes nothing.
use mathlib.Core.Path.{◌≡◌, refl, ap}
use mathlib.Core.Bool.{Bool, true, false}
use mathlib.Core.List.{List}
use Prim.Native.Nat.{ℕ, zero, suc, ◌+◌, ◌-◌, ◌<◌}
use native.Mathlib.Omega.{arith}
use lib.ListN.{length, get_or}
use Rattle.wire.specs.Bytes.{number_in}
use Rattle.pool.specs.Reading.{Entry}
use Rattle.pool.specs.Walk.{entries_of}
use Rattle.naming.specs.Naming.{is_data_kind, kind_of, ddi_of, tag_of}
use Rattle.naming.proofs.Starts.{start-read}

-- the DDI of a record stands behind its ID
pub ddi-read : (p starts : List ℕ) (number : ℕ) → (number ≡ 0 → ⊥) → number < length starts → number_in 2 p (get_or starts (number - 1) 0 + 5) ≡ ddi_of p (entries_of p starts) number
ddi-read p starts zero some l = absurd (some refl)
ddi-read p starts (suc i) some l =
    let e : suc i - 1 ≡ i = omega arith in
    rw e (ap (λ (at : ℕ). number_in 2 p (at + 5)) (start-read p starts i l))

-- what is process data or a property has a number
pub data-some : (es : List Entry) (r : ℕ) → is_data_kind (kind_of es r) ≡ true → r ≡ 0 → ⊥
data-some es zero d e = let z : ◌≡◌ {A = ℕ} 0 1 = cc in omega arith
data-some es (suc i) d e = omega arith

module _ (p : List ℕ) (es : List Entry) where
  pub tag-nothing : tag_of p es 0 ≡ 0
  unfolding tag_of
  tag-nothing = refl

  module _ (r : ℕ) where
    pub tag-data : is_data_kind (kind_of es r) ≡ true → tag_of p es r ≡ suc (ddi_of p es r)
    unfolding tag_of
    tag-data e = rw e

    pub tag-other : is_data_kind (kind_of es r) ≡ false → tag_of p es r ≡ 0
    unfolding tag_of
    tag-other e = rw e

    -- a record with a tag has its DDI for it
    pub tag-ddi : (tag_of p es r ≡ 0 → ⊥) → tag_of p es r ≡ suc (ddi_of p es r)
    tag-ddi h = go (is_data_kind (kind_of es r)) refl
      where
        go : (b : Bool) → is_data_kind (kind_of es r) ≡ b → tag_of p es r ≡ suc (ddi_of p es r)
        go true e = tag-data e
        go false e = absurd (h (tag-other e))
