-- A whole record: document 01, "The five records". Nothing here depends on how a pool is read. Definitions only.
use Rattle.std.specs.Prelude.{ℕ, ◌*◌, ◌≤◌, ◌≡◌, List, [], ◌∷◌, ◌++◌, length}
use Rattle.wire.specs.Bytes.{le_of}
use Rattle.records.specs.Layout.{Field, fixed, text, entries, mark, layout}
use Rattle.records.specs.declared.Kind.{Kind}

-- the bytes are this field: n bytes; a length byte within its limit and that many bytes; a count and two bytes for each entry
abbrev pub Is : Field → List ℕ → Type 0
Is (fixed n) b = length b ≡ n
Is (text limit) b = (n : ℕ) × (t : List ℕ) × (b ≡ n ∷ t) × (n ≤ limit) × (length t ≡ n)
Is entries b = (lo : ℕ) × (hi : ℕ) × (t : List ℕ) × (b ≡ lo ∷ hi ∷ t) × (length t ≡ 2 * le_of (lo ∷ hi ∷ []))

-- the bytes are these fields, one after the other, and nothing more
abbrev pub Fills : List Field → List ℕ → Type 0
Fills [] s = s ≡ []
Fills (f ∷ fs) s = (b : List ℕ) × (rest : List ℕ) × (s ≡ b ++ rest) × Is f b × Fills fs rest

-- a whole record: a mark and the fields of its kind
pub record Whole (r : List ℕ) : Type 0 where
  pub kind : Kind
  pub body : List ℕ
  pub marked : r ≡ mark kind ++ body
  pub filled : Fills (layout kind) body
