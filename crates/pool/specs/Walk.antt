-- Records listed by their starts, for internal functions: no contract of a call rests on these. Definitions only.
use Rattle.std.specs.Prelude.{ℕ, suc, ◌+◌, ◌*◌, ◌≤◌, ◌<◌, ◌≡◌, List, [], ◌∷◌, length, take}
use Rattle.pool.specs.Answer.{Answer, answer}
use Rattle.pool.specs.Reading.{Entry, entry_at, Scan, records, refused, scan_of, read_of}

-- a walk's answer, with n records before it
abbrev pub count_from : ℕ → Scan → Answer
count_from n (records es) = answer 0 (n + length es)
count_from n (refused a) = a

-- the records from a start on, by the starts that follow: each record ends where the next one starts
unfoldable pub entries_after : List ℕ → ℕ → List ℕ → List Entry
entries_after p at [] = []
entries_after p at (end ∷ rest) = entry_at p at end ∷ entries_after p end rest

-- the records of a list of starts, whose last item is the end of the last record
unfoldable pub entries_of : List ℕ → List ℕ → List Entry
unfolding entries_after
entries_of p [] = []
entries_of p (at ∷ rest) = entries_after p at rest

-- a pool divides into the records of a list of starts
pub record Divided (p starts : List ℕ) : Type 0 where
  pub some : 0 < length starts
  pub short : length p ≤ 65535
  pub divides : scan_of p ≡ records (entries_of p starts)

-- if the pool divides into records, the list begins with their starts and the end of the last one
unfoldable pub Starts : List ℕ → List ℕ → Type 0
Starts p starts = (es : List Entry) → scan_of p ≡ records es → (length es < length starts) × (entries_of p (take (suc (length es)) starts) ≡ es)

-- a list of n numbers is long enough for every record that a pool can have: a record takes at least twelve bytes, the starts are
-- followed by the end of the last record, and a pool of more than 65,535 bytes is not walked
abbrev pub Suffices : ℕ → List ℕ → Type 0
Suffices n p = length p ≤ 65535 → length p < 12 * n

-- the same of a list
abbrev pub Reaches : List ℕ → List ℕ → Type 0
Reaches starts p = Suffices (length starts) p

-- the list after reading a pool for a table of room entries: if the pool is read, it begins with the starts of the records; if it is
-- refused, its contents are free
unfoldable pub Listed : List ℕ → ℕ → List ℕ → Type 0
Listed p room starts =
    (read_of p room).number ≡ 0 → ((read_of p room).value < length starts) × Divided p (take ((read_of p room).value + 1) starts)
