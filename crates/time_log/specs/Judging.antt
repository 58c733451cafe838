-- Why a log record is refused, in the order of the reasons. Definitions only.
use Rattle.std.specs.Prelude.{ℕ, Bool, false, not, cond, ◌&&◌, ◌||◌, List, [], ◌∷◌, leb, ltb, nat_abs, length}
use Rattle.time_log.specs.Layout.{place_of, record_length}
use Rattle.time_log.specs.Contents.{fields_at, values_counted, ordinals_at}
use Rattle.time_log.specs.declared.Fields.{Fields}

-- a status is 0 to 8, 14 or 15
abbrev pub is_known_status : ℕ → Bool
is_known_status n = leb n 8 || (leb 14 n && leb n 15)

-- an ordinal counts the header's log values from 0, so it has to be below their count logged: whether one of these ordinals is not
unfoldable pub one_over : ℕ → List ℕ → Bool
one_over logged [] = false
one_over logged (o ∷ os) = leb logged o || one_over logged os

-- the refusal of a record's fields, in their order: 41 time of day, 42 north, 43 east, 44 status, 45 ordinals
unfoldable pub refusal_of_fields : Fields → Bool → ℕ
refusal_of_fields f over =
    cond (ltb 86399999 f.time) 41
    (cond (ltb 900000000 (nat_abs f.north)) 42
    (cond (ltb 1800000000 (nat_abs f.east)) 43
    (cond (not (is_known_status f.status)) 44
    (cond over 45 0))))

-- the refusal of a record: 47 for a layout bit above 8; 40 if the bytes end before the count byte or the record's end; then the fields
unfoldable pub record_refusal : ℕ → ℕ → List ℕ → ℕ
record_refusal layout logged s =
    cond (ltb 511 layout) 47
    (cond (leb (length s) (place_of layout 9)) 40
    (cond (ltb (length s) (record_length layout (values_counted layout s))) 40
    (refusal_of_fields (fields_at layout s) (one_over logged (ordinals_at layout s)))))
