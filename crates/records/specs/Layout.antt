-- The five records of annex A: marks, fields and limits, each stated here and nowhere else. Definitions only.
use Rattle.std.specs.Prelude.{ℕ, ◌+◌, Bool, true, false, cond, ◌&&◌, List, [], ◌∷◌, eqb, get_or, Option, Some, None}
use Rattle.records.specs.declared.Kind.{Kind}
use Rattle.records.specs.declared.Kind.TheVariants.{Dvc, Det, Dpd, Dpt, Dvp}

-- a field: a fixed number of bytes; a text, which is a length byte up to a limit and that many bytes; or the entry IDs of a
-- device element, which are a count of two bytes and two bytes for each entry
pub data Field : Type 0 where
  fixed : ℕ → Field
  text : ℕ → Field
  entries : Field

-- the three letters that a record begins with
unfoldable pub mark : Kind → List ℕ
mark Dvc = 0x44 ∷ 0x56 ∷ 0x43 ∷ []
mark Det = 0x44 ∷ 0x45 ∷ 0x54 ∷ []
mark Dpd = 0x44 ∷ 0x50 ∷ 0x44 ∷ []
mark Dpt = 0x44 ∷ 0x50 ∷ 0x54 ∷ []
mark Dvp = 0x44 ∷ 0x56 ∷ 0x50 ∷ []

-- the fields after the mark, in order. Device: ID, designator, software version, NAME, serial number, structure label,
-- localization label, extended label. Device element: ID, type, designator, element number, parent ID, entry IDs. Process
-- data: ID, DDI, properties, trigger methods, designator, presentation ID. Property: ID, DDI, value, designator,
-- presentation ID. Value presentation: ID, offset, scale, decimals, unit text
unfoldable pub layout : Kind → List Field
layout Dvc = fixed 2 ∷ text 128 ∷ text 128 ∷ fixed 8 ∷ text 128 ∷ fixed 7 ∷ fixed 7 ∷ text 32 ∷ []
layout Det = fixed 2 ∷ fixed 1 ∷ text 128 ∷ fixed 2 ∷ fixed 2 ∷ entries ∷ []
layout Dpd = fixed 2 ∷ fixed 2 ∷ fixed 1 ∷ fixed 1 ∷ text 128 ∷ fixed 2 ∷ []
layout Dpt = fixed 2 ∷ fixed 2 ∷ fixed 4 ∷ text 128 ∷ fixed 2 ∷ []
layout Dvp = fixed 2 ∷ fixed 4 ∷ fixed 4 ∷ fixed 1 ∷ text 128 ∷ []

-- the number of a kind in the working table; document 01 leaves the number free
abbrev pub kind_code : Kind → ℕ
kind_code Dvc = 1
kind_code Det = 2
kind_code Dpd = 3
kind_code Dpt = 4
kind_code Dvp = 5

-- the number of the kind that a mark tells, 0 for no mark
abbrev pub mark_code : Option Kind → ℕ
mark_code (Some k) = kind_code k
mark_code None = 0

-- whether two lists hold the same numbers
abbrev pub same : List ℕ → List ℕ → Bool
same [] [] = true
same [] (y ∷ ys) = false
same (x ∷ xs) [] = false
same (x ∷ xs) (y ∷ ys) = eqb x y && same xs ys

-- the kind whose mark the bytes are, or none
unfoldable pub mark_of : List ℕ → Option Kind
unfolding mark
mark_of s =
    cond (same s (mark Dvc)) (Some Dvc)
    (cond (same s (mark Det)) (Some Det)
    (cond (same s (mark Dpd)) (Some Dpd)
    (cond (same s (mark Dpt)) (Some Dpt)
    (cond (same s (mark Dvp)) (Some Dvp) None))))

-- the three bytes at a place, 0 for a byte past the end; no mark contains a 0
abbrev pub three : List ℕ → ℕ → List ℕ
three p at = get_or p at 0 ∷ get_or p (at + 1) 0 ∷ get_or p (at + 2) 0 ∷ []
