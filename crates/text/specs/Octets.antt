-- The rows of RFC 3629, section 4: the ranges of a character's bytes. Definitions only.
use Rattle.std.specs.Prelude.{ℕ, Bool, cond, ◌&&◌, leb}

-- a byte within a range, both limits included
abbrev pub within : ℕ → ℕ → ℕ → Bool
within lo hi b = leb lo b && leb b hi

-- a byte that continues a character
abbrev pub tail : ℕ → Bool
tail b = within 0x80 0xBF b

-- a row: the first byte's range and the second's
abbrev pub row2 : ℕ → ℕ → ℕ → ℕ → ℕ → ℕ → Bool
row2 lo hi lo' hi' a b = within lo hi a && within lo' hi' b

-- the same with a third byte, which is a tail
abbrev pub row3 : ℕ → ℕ → ℕ → ℕ → ℕ → ℕ → ℕ → Bool
row3 lo hi lo' hi' a b c = row2 lo hi lo' hi' a b && tail c

-- the same with a fourth byte, which is a tail
abbrev pub row4 : ℕ → ℕ → ℕ → ℕ → ℕ → ℕ → ℕ → ℕ → Bool
row4 lo hi lo' hi' a b c d = row3 lo hi lo' hi' a b c && tail d

-- the width in bytes of the character that these four bytes begin with, 0 if they begin with none: the rows in the RFC's order
unfoldable pub width : ℕ → ℕ → ℕ → ℕ → ℕ
width a b c d =
    cond (within 0x00 0x7F a) 1
    (cond (row2 0xC2 0xDF 0x80 0xBF a b) 2
    (cond (row3 0xE0 0xE0 0xA0 0xBF a b c) 3
    (cond (row3 0xE1 0xEC 0x80 0xBF a b c) 3
    (cond (row3 0xED 0xED 0x80 0x9F a b c) 3
    (cond (row3 0xEE 0xEF 0x80 0xBF a b c) 3
    (cond (row4 0xF0 0xF0 0x90 0xBF a b c d) 4
    (cond (row4 0xF1 0xF3 0x80 0xBF a b c d) 4
    (cond (row4 0xF4 0xF4 0x80 0x8F a b c d) 4
    0))))))))
