-- What the lists hold that the functions of `reference_rules` are lent: no public contract rests on these. Definitions only.
use Rattle.std.specs.Prelude.{ℕ, suc, ◌<◌, ◌≡◌, List, get_or}

-- x is among the first n items of the list
pub record Holds (l : List ℕ) (n x : ℕ) : Type 0 where
  pub at : ℕ
  pub before : at < n
  pub is : get_or l at 0 ≡ x

-- the first n items of the list are the DDIs of the first m tags, and no other number
pub record Seen (tag : ℕ → ℕ) (m : ℕ) (seen : List ℕ) (n : ℕ) : Type 0 where
  pub some : (x : ℕ) → Holds seen n x → (j : ℕ) × (j < m) × (tag j ≡ suc x)
  pub all : (x j : ℕ) → j < m → tag j ≡ suc x → Holds seen n x
