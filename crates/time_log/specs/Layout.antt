-- The places of a log record's parts: document 01, "Time log". Definitions only.
use Rattle.std.specs.Prelude.{ℕ, zero, suc, ◌+◌, ◌*◌, ◌/◌, ◌%◌, ◌^◌, [], ◌∷◌, get_or}

-- the mark of optional field k, which is bit k: 1 if the field is present, 0 if it is absent
abbrev pub mark : ℕ → ℕ → ℕ
mark layout k = layout / 2 ^ k % 2

-- how many of the marks below k are set
unfoldable pub marks_below : ℕ → ℕ → ℕ
marks_below zero layout = 0
marks_below (suc k) layout = mark layout k + marks_below k layout

-- how many optional fields a layout has: how many of its nine marks are set
abbrev pub marks_set : ℕ → ℕ
marks_set layout = marks_below 9 layout

-- the width in bytes of the optional fields: north, east, up, status, PDOP, HDOP, satellites, GPS time, GPS date
abbrev pub width : ℕ → ℕ
width k = get_or (4 ∷ 4 ∷ 4 ∷ 1 ∷ 2 ∷ 2 ∷ 1 ∷ 4 ∷ 2 ∷ []) k 0

-- how many bytes optional field k takes in a record: none if it is absent
unfoldable pub part_width : ℕ → ℕ → ℕ
part_width layout k = mark layout k * width k

-- the place of optional field k; the fields follow each other after the time and the days. For k = 9 it is the place of the count byte
unfoldable pub place_of : ℕ → ℕ → ℕ
place_of layout zero = 6
place_of layout (suc k) = place_of layout k + part_width layout k

-- the length of a record with n values: after the count byte it has five bytes for each value
unfoldable pub record_length : ℕ → ℕ → ℕ
record_length layout n = place_of layout 9 + 1 + 5 * n
