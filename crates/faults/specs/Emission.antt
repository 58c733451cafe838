-- For the functions that write faults one after the other: no statement about a whole check rests on these. Definitions only.
use Rattle.std.specs.Prelude.{ℕ, ◌+◌, ◌*◌, ◌≡◌, cond, List, [], ◌∷◌, leb, length}
use Rattle.std.proofs.lemmas.List.Edits.{sets}
use Rattle.faults.specs.Faults.{Fault, FaultEntry, numbers, width}
use Rattle.faults.specs.Rows.{Row, faults_of_rows}

-- a fault as the functions that find it write it: zeros stand where the IDs of its record will be
abbrev pub unnamed : Fault → FaultEntry
unnamed f = record { fault = f; id = 0; parent = 0 }

-- the buffer after fault k, which is written if it fits
unfoldable pub put_at : List ℕ → ℕ → Fault → List ℕ
put_at b k f = cond (leb (k * width + width) (length b)) (sets b (k * width) (numbers (unnamed f))) b

-- the buffer after some faults, written one after the other from fault k on
unfoldable pub puts : List ℕ → ℕ → List Fault → List ℕ
puts b k [] = b
puts b k (f ∷ fs) = puts (put_at b k f) (k + 1) fs

-- the faults fs were added: to the buffer b₀ and the count k₀, which became b and k
pub record Emits (b₀ : List ℕ) (k₀ : ℕ) (fs : List Fault) (b : List ℕ) (k : ℕ) : Type 0 where
  pub laid : b ≡ puts b₀ k₀ fs
  pub counted : k ≡ k₀ + length fs

-- the faults of these rows of record n were added, likewise
pub record Puts (n : ℕ) (rows : List Row) (b₀ : List ℕ) (k₀ : ℕ) (b : List ℕ) (k : ℕ) : Type 0 where
  pub emits : Emits b₀ k₀ (faults_of_rows n rows) b k
