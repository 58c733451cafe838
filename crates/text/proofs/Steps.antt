-- One character of a text. Assumes nothing.
use mathlib.Core.Path.{◌≡◌, refl, sym, ap}
use mathlib.Core.Bool.{true, false, cond}
use mathlib.Core.List.{List, [], ◌∷◌}
use Prim.Native.Nat.{ℕ, zero, suc, ◌+◌, ◌-◌, ◌<◌, ◌≤◌}
use native.Mathlib.Omega.{arith}
use borrow.Author.Tests.{eq-eqb, ne_eqb, le-leb, lt-leb}
use lib.Dec.{eqb}
use native.Mathlib.Decide.{dec_lt}
use lib.ListN.{length, drop}
use Rattle.text.specs.Octets.{width}
use Rattle.text.specs.Characters.{characters_in, plus, width_at}
use Rattle.text.specs.Examined.{few}
use Rattle.text.specs.Characters.{Counted, Characters, Malformed}

-- a byte below 80 is a character
pub single : (a b c d : ℕ) → a < 0x80 → width a b c d ≡ 1
unfolding width
single a b c d h = rw (le-leb 0 a (omega arith), le-leb a 0x7F (omega arith))

skip : (k : ℕ) (s : List ℕ) → characters_in k s ≡ characters_in 0 (drop k s)
unfolding characters_in
skip zero s = refl
skip (suc k) [] = refl
skip (suc k) (a ∷ s) = skip k s

-- ---- the character that a text begins with
first : (a : ℕ) (s : List ℕ) → characters_in 0 (a ∷ s) ≡ cond (eqb (width_at (a ∷ s) 0) 0) Malformed (plus 1 (characters_in (width_at (a ∷ s) 0 - 1) s))
unfolding characters_in
first a s = refl

malformed : (s : List ℕ) → 0 < length s → width_at s 0 ≡ 0 → characters_in 0 s ≡ Malformed
malformed [] h e = absurd (omega arith)
malformed (a ∷ s) h e = rw (first a s, eq-eqb (width_at (a ∷ s) 0) 0 e)

behind : (s : List ℕ) → 0 < length s → 0 < width_at s 0 → characters_in 0 s ≡ plus 1 (characters_in 0 (drop (width_at s 0) s))
behind [] h w = absurd (omega arith)
behind (a ∷ s) h w = rw (first a s, ne_eqb (width_at (a ∷ s) 0) 0 (λ e. omega arith), skip (width_at (a ∷ s) 0 - 1) s) (ap (λ (t : List ℕ). plus 1 (characters_in 0 t)) (sym (rest (width_at (a ∷ s) 0) w)))
  where
    rest : (w : ℕ) → 0 < w → drop w (a ∷ s) ≡ drop (w - 1) s
    rest zero l = absurd (omega arith)
    rest (suc w) l = ap (λ (k : ℕ). drop k s) (omega arith)

regroup : (n : ℕ) (x : Counted) → plus n (plus 1 x) ≡ plus (n + 1) x
regroup n (Characters m) = ap Characters (omega arith)
regroup n Malformed = refl

-- one character more is passed
pub passed-more : (n : ℕ) (s rest : List ℕ) → 0 < length s → 0 < width_at s 0 → rest ≡ drop (width_at s 0) s
    → plus (n + 1) (characters_in 0 rest) ≡ plus n (characters_in 0 s)
passed-more n s rest h w e = rw (e, behind s h w) (sym (regroup n (characters_in 0 (drop (width_at s 0) s))))

pub none : (x : Counted) → plus 0 x ≡ x
none (Characters m) = ap Characters (omega arith)
none Malformed = refl

-- ---- at most 32 characters
pub few-passed : (n : ℕ) (s : List ℕ) → n ≤ 32 → length s ≡ 0 → few (plus n (characters_in 0 s)) ≡ true
unfolding characters_in
few-passed n [] h e = le-leb (n + 0) 32 (omega arith)
few-passed n (a ∷ s) h e = absurd (omega arith)

pub few-malformed : (n : ℕ) (s : List ℕ) → 0 < length s → width_at s 0 ≡ 0 → few (plus n (characters_in 0 s)) ≡ false
few-malformed n s h e = rw (malformed s h e)

-- behind 32 characters one more is too many, whatever follows it
few-no-more : (n : ℕ) (x : Counted) → n ≡ 32 → few (plus n (plus 1 x)) ≡ false
few-no-more n (Characters m) e = lt-leb (n + (1 + m)) 32 (omega arith)
few-no-more n Malformed e = refl

few-at-most : (n : ℕ) (s : List ℕ) → n ≡ 32 → 0 < length s → few (plus n (characters_in 0 s)) ≡ false
few-at-most n s e h = go (dec_lt 0 (width_at s 0))
  where
    go : Dec (0 < width_at s 0) → few (plus n (characters_in 0 s)) ≡ false
    go (yes w) = rw (behind s h w) (few-no-more n (characters_in 0 (drop (width_at s 0) s)) e)
    go (no w) = few-malformed n s h (omega arith)

pub few-all-passed : (n : ℕ) (s : List ℕ) → n ≡ 32 → eqb (length s) 0 ≡ few (plus n (characters_in 0 s))
few-all-passed n s e = go (dec_lt 0 (length s))
  where
    go : Dec (0 < length s) → eqb (length s) 0 ≡ few (plus n (characters_in 0 s))
    go (yes h) = rw (ne_eqb (length s) 0 (λ z. omega arith), few-at-most n s e h)
    go (no h) = rw (eq-eqb (length s) 0 (omega arith), few-passed n s (omega arith) (omega arith))
