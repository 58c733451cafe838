-- Reading, described by the division of a pool alone: when a pool is read, what the table then holds, and when exactly each refusal
-- is given. Definitions only.
use Rattle.std.specs.Prelude.{ℕ, ◌+◌, ◌≤◌, ◌<◌, ◌≡◌, ◌↔◌, List, [], ◌∷◌, ◌++◌, map, length, get_or, take, drop}
use Rattle.wire.specs.Parts.{joined}
use Rattle.wire.specs.Bytes.{le_of}
use Rattle.records.specs.Layout.{kind_code}
use Rattle.records.specs.declared.Kind.{Kind}
use Rattle.records.specs.declared.Kind.TheVariants.{Dvc, Det, Dpd, Dpt, Dvp}
use Rattle.division.specs.Whole.{Whole}
use Rattle.division.specs.Bad.{Unmarked, CutShort, OverLimit}
use Rattle.division.specs.Division.{AllWhole, Division, Divides}
use Rattle.pool.specs.Answer.{answer}
use Rattle.pool.specs.Reading.{Entry, read_of, scan_of, entries_in}
use Rattle.working_table.specs.declared.Record.{Record}
use Rattle.working_table.specs.Table.{record_of, records_after}

-- the parent ID of a whole record, by its own bytes. In a device element it stands behind the mark, the ID, the type, N with the designator
-- and the element number; N is the byte at 6. Records of the other kinds have none: 65535
abbrev pub parent_in : Kind → List ℕ → ℕ
parent_in Dvc r = 65535
parent_in Det r = le_of (take 2 (drop (9 + get_or r 6 0) r))
parent_in Dpd r = 65535
parent_in Dpt r = 65535
parent_in Dvp r = 65535

-- the entry of a whole record that starts at a place: start, length, kind, ID and parent ID
abbrev pub whole_entry : (r : List ℕ) → Whole r → ℕ → Entry
whole_entry r w at = record { start = at; size = length r; kind = kind_code w.kind; id = le_of (take 2 (drop 3 r)); parent = parent_in w.kind r }

-- the entries of records that follow each other from a place on
abbrev pub listed : (rs : List (List ℕ)) → AllWhole rs → ℕ → List Entry
listed [] w at = []
listed (r ∷ rs) w at = whole_entry r w.0 at ∷ listed rs w.1 (at + length r)

-- what is wrong with bytes that do not start with a whole record: the refusal's number, and its place relative to their start
pub data Bad : List ℕ → ℕ → ℕ → Type 0 where
  unmarked : {s : List ℕ} → Unmarked s → Bad s 3 0
  cut : {s : List ℕ} → 0 < length s → CutShort s → Bad s 4 0
  over : {s : List ℕ} {place : ℕ} → OverLimit s place → Bad s 5 place

-- the earliest bad record: whole records, followed by bytes that do not start with a whole record
pub record Earliest (p : List ℕ) (number place : ℕ) : Type 0 where
  pub before : List (List ℕ)
  pub whole : AllWhole before
  pub rest : List ℕ
  pub same : p ≡ joined before ++ rest
  pub offset : ℕ
  pub bad : Bad rest number offset
  pub at : place ≡ length (joined before) + offset

-- the pool has a size that can be read: else refusal 1 or 2 is given, for the size alone
abbrev pub Sized : List ℕ → Type 0
Sized p = (1 ≤ length p) × (length p ≤ 65535)

-- the table after a call that reads a pool: if the pool has a size that can be read, divides into records and the table holds
-- them, it starts with their entries and later entries are as before; else all of it is as before
pub record Filled (p : List ℕ) (table left : List Record) : Type 0 where
  pub read : (rs : List (List ℕ)) (d : Division p rs) → Sized p → length rs ≤ length table → left ≡ map record_of (listed rs d.whole 0) ++ drop (length rs) table
  pub stays : ((d : Divides p) → Sized p → length d.parts ≤ length table → ⊥) → left ≡ table

-- what reading answers, by the division alone
pub record Reads (p : List ℕ) (room : ℕ) : Type 0 where
  -- it succeeds exactly if the pool has 1 to 65,535 bytes, divides into records and the table holds them; it answers their count
  pub read : (n : ℕ) → (read_of p room ≡ answer 0 n) ↔ (Sized p × ((d : Divides p) × (length d.parts ≡ n) × (n ≤ room)))
  -- the entries are those of the division, and a table then starts with them
  pub entries : (rs : List (List ℕ)) (d : Division p rs) → entries_in (scan_of p) ≡ listed rs d.whole 0
  pub table : (table : List Record) → Filled p table (records_after p table)
  pub empty : (read_of p room ≡ answer 1 0) ↔ (length p ≡ 0)
  pub long : (read_of p room ≡ answer 2 0) ↔ (65535 < length p)
  -- 3, 4 and 5 are about the earliest bad record
  pub refused : (number place : ℕ) → (3 ≤ number) × (number ≤ 5) → (read_of p room ≡ answer number place) ↔ (Sized p × Earliest p number place)
  -- 6 is never given
  pub many : (place : ℕ) → read_of p room ≡ answer 6 place → ⊥
  pub short : (n : ℕ) → (read_of p room ≡ answer 7 n) ↔ (Sized p × ((d : Divides p) × (length d.parts ≡ n) × (room < n)))
