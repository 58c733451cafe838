-- A log as records joined back to back, without a walk over its bytes. Definitions only.
use Rattle.std.specs.Prelude.{ℕ, ◌≤◌, ◌<◌, ◌≡◌, ◌↔◌, ◌⊎◌, List, [], ◌∷◌, ◌++◌, length}
use Rattle.wire.specs.Parts.{joined}
use Rattle.time_log.specs.Layout.{record_length}
use Rattle.time_log.specs.Contents.{values_counted}
use Rattle.time_log.specs.Judging.{record_refusal}
use Rattle.log_reading.specs.Logs.{whole_log, bad_log, log_of}

-- bytes that are exactly one record
pub record OneRecord (layout logged : ℕ) (r : List ℕ) : Type 0 where
  pub long : length r ≡ record_length layout (values_counted layout r)
  pub right : record_refusal layout logged r ≡ 0

-- every part is a record
abbrev pub AllRecords : ℕ → ℕ → List (List ℕ) → Type 0
AllRecords layout logged [] = Unit {0}
AllRecords layout logged (r ∷ rs) = OneRecord layout logged r × AllRecords layout logged rs

-- bytes that are n records joined
pub record Records (layout logged n : ℕ) (s : List ℕ) : Type 0 where
  pub parts : List (List ℕ)
  pub records : AllRecords layout logged parts
  pub same : s ≡ joined parts
  pub count : length parts ≡ n

-- a log is read as n records exactly if it is n records
abbrev pub LogsAreRecords : Type 0
LogsAreRecords = (layout logged n : ℕ) (s : List ℕ) → layout ≤ 511 → (log_of layout logged s ≡ whole_log n) ↔ Records layout logged n s

-- whole records up to the start, followed by at least one byte, and the bytes from there on are refused as a record
pub record RefusedAt (layout logged number start : ℕ) (s : List ℕ) : Type 0 where
  pub before : List (List ℕ)
  pub records : AllRecords layout logged before
  pub rest : List ℕ
  pub some : 0 < length rest
  pub same : s ≡ joined before ++ rest
  pub cause : record_refusal layout logged rest ≡ number
  pub at : length (joined before) ≡ start

-- a log is refused exactly if its layout has a bit above 8, with 47 and 0, or for such a record, with the record's refusal and start
abbrev pub LogsAreRefused : Type 0
LogsAreRefused = (layout logged number start : ℕ) (s : List ℕ) → 0 < number
    → (log_of layout logged s ≡ bad_log number start) ↔ (((511 < layout) × (number ≡ 47) × (start ≡ 0)) ⊎ ((layout ≤ 511) × RefusedAt layout logged number start s))
