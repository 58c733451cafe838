-- The grammar of RFC 3629, section 4: UTF8-octets = *( UTF8-char ). Definitions only.
use Rattle.std.specs.Prelude.{ℕ, suc, List, [], ◌∷◌, ◌++◌, T}
use Rattle.text.specs.Octets.{within, row2, row3, row4}

-- a character of three bytes, by the rows of the grammar
pub data Three : ℕ → ℕ → ℕ → Type 0 where
  e0 : {a b c : ℕ} → T (row3 0xE0 0xE0 0xA0 0xBF a b c) → Three a b c
  e1 : {a b c : ℕ} → T (row3 0xE1 0xEC 0x80 0xBF a b c) → Three a b c
  ed : {a b c : ℕ} → T (row3 0xED 0xED 0x80 0x9F a b c) → Three a b c
  ee : {a b c : ℕ} → T (row3 0xEE 0xEF 0x80 0xBF a b c) → Three a b c

-- a character of four bytes
pub data Four : ℕ → ℕ → ℕ → ℕ → Type 0 where
  f0 : {a b c d : ℕ} → T (row4 0xF0 0xF0 0x90 0xBF a b c d) → Four a b c d
  f1 : {a b c d : ℕ} → T (row4 0xF1 0xF3 0x80 0xBF a b c d) → Four a b c d
  f4 : {a b c d : ℕ} → T (row4 0xF4 0xF4 0x80 0x8F a b c d) → Four a b c d

-- UTF8-char
pub data Char : List ℕ → Type 0 where
  one : {a : ℕ} → T (within 0x00 0x7F a) → Char (a ∷ [])
  two : {a b : ℕ} → T (row2 0xC2 0xDF 0x80 0xBF a b) → Char (a ∷ b ∷ [])
  three : {a b c : ℕ} → Three a b c → Char (a ∷ b ∷ c ∷ [])
  four : {a b c d : ℕ} → Four a b c d → Char (a ∷ b ∷ c ∷ d ∷ [])

-- UTF8-octets, with the number of characters
pub data Text : List ℕ → ℕ → Type 0 where
  none : Text [] 0
  more : {c s : List ℕ} {n : ℕ} → Char c → Text s n → Text (c ++ s) (suc n)
