-- A log record by the lengths of its parts alone, and bytes that end inside one, without places of fields or records. Definitions only.
use Rattle.std.specs.Prelude.{ℕ, ◌+◌, ◌*◌, ◌≤◌, ◌<◌, ◌≡◌, ◌↔◌, List, ◌∷◌, ◌++◌, length}
use Rattle.wire.specs.Bytes.{Octets}
use Rattle.time_log.specs.Layout.{mark}
use Rattle.time_log.specs.Judging.{record_refusal}

-- how many bytes come before the count byte: those of time and days, and of the marked ones among north, east, up, status, PDOP, HDOP,
-- satellites, GPS time and GPS date
abbrev pub field_bytes : ℕ → ℕ
field_bytes layout =
    4 + 2 + mark layout 0 * 4 + mark layout 1 * 4 + mark layout 2 * 4 + mark layout 3 * 1 + mark layout 4 * 2 + mark layout 5 * 2 + mark layout 6 * 1 + mark layout 7 * 4 + mark layout 8 * 2

-- bytes that are one record, whatever its values: the fields, a count byte, and five bytes for each value that it counts
pub record Whole (layout : ℕ) (r : List ℕ) : Type 0 where
  pub fields : List ℕ
  pub count : ℕ
  pub pairs : List ℕ
  pub same : r ≡ fields ++ (count ∷ pairs)
  pub fields_long : length fields ≡ field_bytes layout
  pub pairs_long : length pairs ≡ 5 * count

-- bytes that end inside a record: more bytes would make them a whole one
pub record Cut (layout : ℕ) (s : List ℕ) : Type 0 where
  pub more : List ℕ
  pub some : 0 < length more
  pub octets : Octets more
  pub whole : Whole layout (s ++ more)

-- bytes that start with a whole record
pub record Starts (layout : ℕ) (s : List ℕ) : Type 0 where
  pub first : List ℕ
  pub rest : List ℕ
  pub same : s ≡ first ++ rest
  pub whole : Whole layout first

-- 40 is given exactly if the bytes end inside a record, and 0 or 41 to 45 only if they start with a whole one, whatever its values
pub record CutIsForty : Type 0 where
  pub cut : (layout logged : ℕ) (s : List ℕ) → layout ≤ 511 → (record_refusal layout logged s ≡ 40) ↔ Cut layout s
  pub whole : (layout logged : ℕ) (s : List ℕ) → layout ≤ 511 → (record_refusal layout logged s ≡ 40 → ⊥) ↔ Starts layout s
