-- A sound text: document 01, rule 4. Definitions only.
use Rattle.std.specs.Prelude.{ℕ, ◌≤◌, ◌≡◌, Bool, true, false, cond, ◌&&◌, List, ◌∷◌, ◌↔◌, eqb, leb, get_or}
use Rattle.text.specs.Grammar.{Text}
use Rattle.text.specs.Characters.{characters_in}
use Rattle.text.specs.Characters.{Counted, Characters, Malformed}

-- the first three bytes are the byte order mark
abbrev pub marked : List ℕ → Bool
marked s = eqb (get_or s 0 0) 0xEF && (eqb (get_or s 1 0) 0xBB && eqb (get_or s 2 0) 0xBF)

-- well-formed, with at most 32 characters
abbrev pub few : Counted → Bool
few (Characters n) = leb n 32
few Malformed = false

-- rule 4 as a test: no byte order mark at the start, well-formed, and at most 32 characters
unfoldable pub sound_text : List ℕ → Bool
sound_text s = cond (marked s) false (few (characters_in 0 s))

-- a sound text, by the grammar alone: at most 32 characters of the grammar, and no byte order mark at the start
pub record Sound (s : List ℕ) : Type 0 where
  pub characters : ℕ
  pub text : Text s characters
  pub few : characters ≤ 32
  pub plain : (rest : List ℕ) → s ≡ 0xEF ∷ 0xBB ∷ 0xBF ∷ rest → ⊥

-- the test holds exactly for sound texts
abbrev pub Examined : List ℕ → Type 0
Examined s = (sound_text s ≡ true) ↔ Sound s
