-- Distinct tags: no public contract rests on this. Definitions only.
use Rattle.std.specs.Prelude.{ℕ, ◌<◌, ◌≡◌}

-- none of the first n tags is 0, and no two of them are equal
pub record Apart (tag : ℕ → ℕ) (n : ℕ) : Type 0 where
  pub some : (m : ℕ) → m < n → tag m ≡ 0 → ⊥
  pub apart : (j m : ℕ) → j < m → m < n → tag j ≡ tag m → ⊥
