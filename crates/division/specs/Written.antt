-- The five records a second time: the parts of each, one after the other, as in the table of document 01. This does not depend on the
-- list of fields in `records` or on a reader. Definitions only.
use Rattle.std.specs.Prelude.{ℕ, ◌*◌, ◌≤◌, ◌≡◌, ◌↔◌, List, [], ◌∷◌, length}
use Rattle.wire.specs.Parts.{joined}
use Rattle.wire.specs.Bytes.{le_of}
use Rattle.records.specs.declared.Kind.{Kind}
use Rattle.records.specs.declared.Kind.TheVariants.{Dvc, Det, Dpd, Dpt, Dvp}
use Rattle.division.specs.Whole.{Whole}

-- a text preceded by its length byte
abbrev pub sized : List ℕ → List ℕ
sized t = length t ∷ t

-- the bytes of a record of a kind: the three letters of its mark, then the fields in their order
pub data Written : Kind → List ℕ → Type 0 where
  dvc : (id designator version name serial structure localization extended : List ℕ)
      → length id ≡ 2 → length designator ≤ 128 → length version ≤ 128 → length name ≡ 8 → length serial ≤ 128
      → length structure ≡ 7 → length localization ≡ 7 → length extended ≤ 32
      → Written Dvc (joined ((0x44 ∷ 0x56 ∷ 0x43 ∷ []) ∷ id ∷ sized designator ∷ sized version ∷ name ∷ sized serial ∷ structure ∷ localization ∷ sized extended ∷ []))
  det : (id type designator number parent count list : List ℕ)
      → length id ≡ 2 → length type ≡ 1 → length designator ≤ 128 → length number ≡ 2 → length parent ≡ 2
      → length count ≡ 2 → length list ≡ 2 * le_of count
      → Written Det (joined ((0x44 ∷ 0x45 ∷ 0x54 ∷ []) ∷ id ∷ type ∷ sized designator ∷ number ∷ parent ∷ count ∷ list ∷ []))
  dpd : (id ddi properties triggers designator presentation : List ℕ)
      → length id ≡ 2 → length ddi ≡ 2 → length properties ≡ 1 → length triggers ≡ 1 → length designator ≤ 128 → length presentation ≡ 2
      → Written Dpd (joined ((0x44 ∷ 0x50 ∷ 0x44 ∷ []) ∷ id ∷ ddi ∷ properties ∷ triggers ∷ sized designator ∷ presentation ∷ []))
  dpt : (id ddi value designator presentation : List ℕ)
      → length id ≡ 2 → length ddi ≡ 2 → length value ≡ 4 → length designator ≤ 128 → length presentation ≡ 2
      → Written Dpt (joined ((0x44 ∷ 0x50 ∷ 0x54 ∷ []) ∷ id ∷ ddi ∷ value ∷ sized designator ∷ presentation ∷ []))
  dvp : (id offset scale decimals unit : List ℕ)
      → length id ≡ 2 → length offset ≡ 4 → length scale ≡ 4 → length decimals ≡ 1 → length unit ≤ 128
      → Written Dvp (joined ((0x44 ∷ 0x56 ∷ 0x50 ∷ []) ∷ id ∷ offset ∷ scale ∷ decimals ∷ sized unit ∷ []))

-- the whole records of a kind are exactly these bytes
abbrev pub WholeAreWritten : Type 0
WholeAreWritten = (k : Kind) (r : List ℕ) → ((w : Whole r) × (w.kind ≡ k)) ↔ Written k r
