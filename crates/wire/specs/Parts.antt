-- Bytes in parts. Definitions only.
use Rattle.std.specs.Prelude.{ℕ, ◌+◌, List, [], ◌∷◌, ◌++◌}
use Rattle.std.specs.Borrow.{Bor}

-- the parts one after the other, as one list of bytes
abbrev pub joined : List (List ℕ) → List ℕ
joined [] = []
joined (r ∷ rs) = r ++ joined rs

-- the place in memory that is n bytes after the start of a lent slice; `ptr` is where a slice points: a block of memory and a byte of it
abbrev pub place_in : Bor (List ℕ) → ℕ → ℕ × ℕ
place_in s n = (s.ref_ptr.0, s.ref_ptr.1 + n)
