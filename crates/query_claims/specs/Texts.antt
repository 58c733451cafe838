-- Texts and labels of an accepted pool, by the records that it divides into and the parts that these consist of. Definitions only.
use Rattle.std.specs.Prelude.{ℕ, ◌+◌, ◌-◌, ◌≡◌, ◌↔◌, length, replicate}
use mathlib.Core.List.{List, [], ◌∷◌, ◌++◌, Memᴰ}
use Rattle.wire.specs.Bytes.{le_of}
use Rattle.wire.specs.Parts.{joined}
use Rattle.records.specs.declared.Kind.{Kind}
use Rattle.records.specs.declared.Kind.TheVariants.{Dvc}
use Rattle.division.specs.Division.{Division}
use Rattle.division.specs.Written.{Written, dvc, det, dpd, dpt, dvp}
use Rattle.text.specs.Examined.{Sound}
use Rattle.queries.specs.Queries.{acceptance, text_number, text_span, text_of, labels_number, structure_label, localization_label, extended_label, extended_count}

-- the two bytes of a record's ID
abbrev pub id_in : {k : Kind} {r : List ℕ} → Written k r → List ℕ
id_in (dvc id designator version name serial structure localization extended a b c d e f g h) = id
id_in (det id type designator number parent count list a b c d e f g) = id
id_in (dpd id ddi properties triggers designator presentation a b c d e f) = id
id_in (dpt id ddi value designator presentation a b c d e) = id
id_in (dvp id offset scale decimals unit a b c d e) = id

-- the text that a query gives for a record: its designator, or the unit text of a value presentation
abbrev pub asked_text : {k : Kind} {r : List ℕ} → Written k r → List ℕ
asked_text (dvc id designator version name serial structure localization extended a b c d e f g h) = designator
asked_text (det id type designator number parent count list a b c d e f g) = designator
asked_text (dpd id ddi properties triggers designator presentation a b c d e f) = designator
asked_text (dpt id ddi value designator presentation a b c d e) = designator
asked_text (dvp id offset scale decimals unit a b c d e) = unit

-- the number of bytes of the record before that text: the mark, the parts before it, and its length byte
abbrev pub before_text : {k : Kind} {r : List ℕ} → Written k r → ℕ
before_text (dvc id designator version name serial structure localization extended a b c d e f g h) = 3 + length id + 1
before_text (det id type designator number parent count list a b c d e f g) = 3 + length id + length type + 1
before_text (dpd id ddi properties triggers designator presentation a b c d e f) = 3 + length id + length ddi + length properties + length triggers + 1
before_text (dpt id ddi value designator presentation a b c d e) = 3 + length id + length ddi + length value + 1
before_text (dvp id offset scale decimals unit a b c d e) = 3 + length id + length offset + length scale + length decimals + 1

-- all texts of a record
abbrev pub texts_in : {k : Kind} {r : List ℕ} → Written k r → List (List ℕ)
texts_in (dvc id designator version name serial structure localization extended a b c d e f g h) = designator ∷ version ∷ serial ∷ []
texts_in (det id type designator number parent count list a b c d e f g) = designator ∷ []
texts_in (dpd id ddi properties triggers designator presentation a b c d e f) = designator ∷ []
texts_in (dpt id ddi value designator presentation a b c d e) = designator ∷ []
texts_in (dvp id offset scale decimals unit a b c d e) = unit ∷ []

-- the labels of a device; other records have none
pub record Labels : Type 0 where
  pub structure : List ℕ
  pub localization : List ℕ
  pub extended : List ℕ

-- the labels that a record contains
abbrev pub labels_within : {k : Kind} {r : List ℕ} → Written k r → Labels
labels_within (dvc id designator version name serial structure localization extended a b c d e f g h) = record { structure = structure; localization = localization; extended = extended }
labels_within (det id type designator number parent count list a b c d e f g) = record { structure = []; localization = []; extended = [] }
labels_within (dpd id ddi properties triggers designator presentation a b c d e f) = record { structure = []; localization = []; extended = [] }
labels_within (dpt id ddi value designator presentation a b c d e) = record { structure = []; localization = []; extended = [] }
labels_within (dvp id offset scale decimals unit a b c d e) = record { structure = []; localization = []; extended = [] }

-- a record has this ID
abbrev pub Has : ℕ → List ℕ → Type 0
Has id r = (k : Kind) × (w : Written k r) × (le_of (id_in w) ≡ id)

-- no record of a list has the property P
abbrev pub None : (List ℕ → Type 0) → List (List ℕ) → Type 0
None P rs = (r : List ℕ) → Memᴰ r rs → P r → ⊥

-- what queries for texts and labels answer for an accepted pool
pub record QueriesAreParts (p : List ℕ) (room : ℕ) : Type 0 where
  -- an ID means the first record that has it, and the answer is the bytes of that record's text and its place, also if it is empty
  pub text : (front : List (List ℕ)) (r : List ℕ) (back : List (List ℕ)) → Division p (front ++ (r ∷ back)) → (k : Kind) (w : Written k r) → None (Has (le_of (id_in w))) front
      → (text_number p room (le_of (id_in w)) ≡ 0) × (text_of p room (le_of (id_in w)) ≡ asked_text w)
      × ((text_span p room (le_of (id_in w))).from ≡ length (joined front) + before_text w)
  -- 28 is given exactly if no record has the ID
  pub missing : (rs : List (List ℕ)) → Division p rs → (id : ℕ) → (text_number p room id ≡ 28) ↔ None (Has id) rs
  -- every text is sound
  pub sound : (front : List (List ℕ)) (r : List ℕ) (back : List (List ℕ)) → Division p (front ++ (r ∷ back)) → (k : Kind) (w : Written k r) (t : List ℕ) → Memᴰ t (texts_in w) → Sound t
  -- the labels are those of the first device; the unused bytes of the extended label are 0
  pub labels : (front : List (List ℕ)) (r : List ℕ) (back : List (List ℕ)) → Division p (front ++ (r ∷ back)) → (w : Written Dvc r) → None (Written Dvc) front
      → (labels_number p room ≡ 0) × (structure_label p room ≡ (labels_within w).structure) × (localization_label p room ≡ (labels_within w).localization)
      × (extended_label p room ≡ (labels_within w).extended ++ replicate (32 - length (labels_within w).extended) 0) × (extended_count p room ≡ length (labels_within w).extended)

-- for every accepted pool, with a table of room entries
abbrev pub AcceptedQueries : Type 0
AcceptedQueries = (p : List ℕ) (room : ℕ) → acceptance p room ≡ 0 → QueriesAreParts p room
