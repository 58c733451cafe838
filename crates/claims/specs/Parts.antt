-- The fields of a record, by the parts that it consists of, wherever it is in a pool. Definitions only.
use Rattle.std.specs.Prelude.{ℕ, ◌*◌, ◌<◌, ◌≡◌, List, ◌++◌, length, take, drop}
use Rattle.wire.specs.Bytes.{le_of, signed_of}
use Rattle.records.specs.Places.{id_of}
use Rattle.records.specs.declared.Kind.{Kind}
use Rattle.views.specs.Fields.{part_of, device_of, element_of, entry_of, process_data_of, property_of, presentation_of}
use Rattle.division.specs.Written.{Written, dvc, det, dpd, dpt, dvp}

-- what the views of a record at a place give: a number is its bytes, lowest first; a text or label is its bytes; entry n is the n-th
-- pair of bytes of the list
abbrev pub Shows : (p : List ℕ) (at : ℕ) {k : Kind} {r : List ℕ} → Written k r → Type 0
Shows p at (dvc id designator version name serial structure localization extended a b c d e f g h) =
    (id_of p at ≡ le_of id)
    × (part_of p (device_of p at).designator ≡ designator)
    × (part_of p (device_of p at).version ≡ version)
    × ((device_of p at).name ≡ le_of name)
    × (part_of p (device_of p at).serial ≡ serial)
    × (part_of p (device_of p at).structure ≡ structure)
    × (part_of p (device_of p at).localization ≡ localization)
    × (part_of p (device_of p at).extended ≡ extended)
Shows p at (det id type designator number parent count list a b c d e f g) =
    (id_of p at ≡ le_of id)
    × ((element_of p at).element_type ≡ le_of type)
    × (part_of p (element_of p at).designator ≡ designator)
    × ((element_of p at).number ≡ le_of number)
    × ((element_of p at).parent ≡ le_of parent)
    × ((element_of p at).entries ≡ le_of count)
    × ((n : ℕ) → n < le_of count → entry_of p at n ≡ le_of (take 2 (drop (2 * n) list)))
Shows p at (dpd id ddi properties triggers designator presentation a b c d e f) =
    (id_of p at ≡ le_of id)
    × ((process_data_of p at).ddi ≡ le_of ddi)
    × ((process_data_of p at).properties ≡ le_of properties)
    × ((process_data_of p at).triggers ≡ le_of triggers)
    × (part_of p (process_data_of p at).designator ≡ designator)
    × ((process_data_of p at).presentation ≡ le_of presentation)
Shows p at (dpt id ddi value designator presentation a b c d e) =
    (id_of p at ≡ le_of id)
    × ((property_of p at).ddi ≡ le_of ddi)
    × ((property_of p at).value ≡ signed_of 4 (le_of value))
    × (part_of p (property_of p at).designator ≡ designator)
    × ((property_of p at).presentation ≡ le_of presentation)
Shows p at (dvp id offset scale decimals unit a b c d e) =
    (id_of p at ≡ le_of id)
    × ((presentation_of p at).offset ≡ signed_of 4 (le_of offset))
    × ((presentation_of p at).scale ≡ le_of scale)
    × ((presentation_of p at).decimals ≡ le_of decimals)
    × (part_of p (presentation_of p at).unit ≡ unit)

-- for every record, with any bytes before it and after it
abbrev pub FieldsAreParts : Type 0
FieldsAreParts = (before r after : List ℕ) (k : Kind) (w : Written k r) → Shows (before ++ (r ++ after)) (length before) w
