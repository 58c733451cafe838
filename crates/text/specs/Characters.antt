-- The characters of a text. Definitions only.
use Rattle.std.specs.Prelude.{ℕ, zero, suc, ◌+◌, ◌-◌, cond, List, [], ◌∷◌, eqb, get_or}
use Rattle.text.specs.Octets.{width}

-- how many characters a text has, or that it is malformed
pub data Counted : Type 0 where
  Characters : ℕ → Counted
  Malformed : Counted

-- a count with n characters more
abbrev pub plus : ℕ → Counted → Counted
plus n (Characters m) = Characters (n + m)
plus n Malformed = Malformed

-- the characters of a text whose first k bytes belong to a character that has been counted
unfoldable pub characters_in : ℕ → List ℕ → Counted
unfolding width
characters_in k [] = Characters 0
characters_in zero (a ∷ s) =
    let w = width a (get_or s 0 0) (get_or s 1 0) (get_or s 2 0) in
    cond (eqb w 0) Malformed (plus 1 (characters_in (w - 1) s))
characters_in (suc k) (a ∷ s) = characters_in k s

-- the width of the character at a place of a text; a byte past the end counts as 0, which continues no character
abbrev pub width_at : List ℕ → ℕ → ℕ
width_at s i = width (get_or s i 0) (get_or s (i + 1) 0) (get_or s (i + 2) 0) (get_or s (i + 3) 0)
