-- Bytes that do not begin with a whole record: the causes of refusals 3, 4 and 5, each in the words of document 01's table.
-- Definitions only.
use Rattle.std.specs.Prelude.{ℕ, ◌+◌, ◌≤◌, ◌<◌, ◌≡◌, ◌⊎◌, List, ◌∷◌, ◌++◌, length, take}
use Rattle.records.specs.Layout.{Field, text, mark, layout}
use Rattle.records.specs.declared.Kind.{Kind}
use Rattle.division.specs.Whole.{Fills, Whole}

-- 3: there are three bytes at the start, and they are no mark
pub record Unmarked (s : List ℕ) : Type 0 where
  pub three : 3 ≤ length s
  pub none : (k : Kind) → take 3 s ≡ mark k → ⊥

-- 4: the bytes are the beginning of a record, but not all of it, or there are at most two bytes, of any value
abbrev pub CutShort : List ℕ → Type 0
CutShort s = (length s < 3) ⊎ ((missing : List ℕ) × (0 < length missing) × Whole (s ++ missing))

-- 5: a length byte that follows a mark and the fields before it is over its limit; the place counts from the record's start
pub record OverLimit (s : List ℕ) (place : ℕ) : Type 0 where
  pub kind : Kind
  pub before : List Field
  pub limit : ℕ
  pub after : List Field
  pub fields : layout kind ≡ before ++ (text limit ∷ after)
  pub bytes : List ℕ
  pub filled : Fills before bytes
  pub over : ℕ
  pub rest : List ℕ
  pub stands : s ≡ mark kind ++ (bytes ++ (over ∷ rest))
  pub exceeds : limit < over
  pub at : place ≡ 3 + length bytes
