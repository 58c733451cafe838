-- `characters_in` is the grammar: it counts what the grammar derives, and nothing else. Assumes nothing.
use mathlib.Core.Path.{◌≡◌, refl, sym, ap, subst, ◌∙◌}
use mathlib.Core.Bool.{Bool, true, false, cond, and-false}
use mathlib.Core.List.{List, [], ◌∷◌, ◌++◌}
use Prim.Native.Nat.{ℕ, zero, suc, ◌+◌, ◌-◌, ◌<◌, ◌≤◌}
use native.Mathlib.Nat.{le_trans, le_refl, le_of_suc-le-suc, le-suc, not-suc-le-zero, lt_of_lt_of_le}
use native.Mathlib.Omega.{arith}
use borrow.Author.Tests.{lt-leb}
use lib.Dec.{T, leb, ltb, eqb, leb→le, lit<}
use lib.ListN.{length, get_or}
use lib.Ieee.Fits.{and_l, and_r}
use lib.Ieee.Bits.{is_true}
use Rattle.text.specs.Octets.{within, row2, row3, row4, width}
use Rattle.text.specs.Characters.{characters_in, plus, width_at}
use Rattle.text.specs.Grammar.{Three, e0, e1, ed, ee, Four, f0, f1, f4, Char, one, two, three, four, Text, none, more}
use Rattle.text.specs.Characters.{Counted, Characters, Malformed}

-- ---- the table's rows exclude each other: a byte from lo on is in no range that ends below lo
after : (lo hi lo' hi' a : ℕ) → T (within lo hi a) → T (ltb hi' lo) → within lo' hi' a ≡ false
after lo hi lo' hi' a t l =
    let g : hi' < a = lt_of_lt_of_le (lit< l) (leb→le lo a (and_l (leb lo a) (leb a hi) t)) in
    rw (lt-leb a hi' g) (and-false (leb lo' a))

wide-one : (a b c d : ℕ) → T (within 0x00 0x7F a) → width a b c d ≡ 1
unfolding width
wide-one a b c d t = rw (is_true (within 0x00 0x7F a) t)

wide-two : (a b c d : ℕ) → T (row2 0xC2 0xDF 0x80 0xBF a b) → width a b c d ≡ 2
unfolding width
wide-two a b c d t =
    let h = and_l (within 0xC2 0xDF a) (within 0x80 0xBF b) t in
    rw (after 0xC2 0xDF 0x00 0x7F a h tt, is_true (row2 0xC2 0xDF 0x80 0xBF a b) t)

first3 : (lo hi lo' hi' a b c : ℕ) → T (row3 lo hi lo' hi' a b c) → T (within lo hi a)
first3 lo hi lo' hi' a b c t = and_l (within lo hi a) (within lo' hi' b) (and_l (row2 lo hi lo' hi' a b) (within 0x80 0xBF c) t)

first4 : (lo hi lo' hi' a b c d : ℕ) → T (row4 lo hi lo' hi' a b c d) → T (within lo hi a)
first4 lo hi lo' hi' a b c d t = first3 lo hi lo' hi' a b c (and_l (row3 lo hi lo' hi' a b c) (within 0x80 0xBF d) t)

wide-three : (a b c d : ℕ) → Three a b c → width a b c d ≡ 3
unfolding width
wide-three a b c d (e0 t) =
    let h = first3 0xE0 0xE0 0xA0 0xBF a b c t in
    rw (after 0xE0 0xE0 0x00 0x7F a h tt, after 0xE0 0xE0 0xC2 0xDF a h tt, is_true (row3 0xE0 0xE0 0xA0 0xBF a b c) t)
wide-three a b c d (e1 t) =
    let h = first3 0xE1 0xEC 0x80 0xBF a b c t in
    rw (after 0xE1 0xEC 0x00 0x7F a h tt, after 0xE1 0xEC 0xC2 0xDF a h tt, after 0xE1 0xEC 0xE0 0xE0 a h tt, is_true (row3 0xE1 0xEC 0x80 0xBF a b c) t)
wide-three a b c d (ed t) =
    let h = first3 0xED 0xED 0x80 0x9F a b c t in
    rw (after 0xED 0xED 0x00 0x7F a h tt, after 0xED 0xED 0xC2 0xDF a h tt, after 0xED 0xED 0xE0 0xE0 a h tt, after 0xED 0xED 0xE1 0xEC a h tt, is_true (row3 0xED 0xED 0x80 0x9F a b c) t)
wide-three a b c d (ee t) =
    let h = first3 0xEE 0xEF 0x80 0xBF a b c t in
    rw (after 0xEE 0xEF 0x00 0x7F a h tt, after 0xEE 0xEF 0xC2 0xDF a h tt, after 0xEE 0xEF 0xE0 0xE0 a h tt, after 0xEE 0xEF 0xE1 0xEC a h tt, after 0xEE 0xEF 0xED 0xED a h tt, is_true (row3 0xEE 0xEF 0x80 0xBF a b c) t)

wide-four : (a b c d : ℕ) → Four a b c d → width a b c d ≡ 4
unfolding width
wide-four a b c d (f0 t) =
    let h = first4 0xF0 0xF0 0x90 0xBF a b c d t in
    rw (after 0xF0 0xF0 0x00 0x7F a h tt, after 0xF0 0xF0 0xC2 0xDF a h tt, after 0xF0 0xF0 0xE0 0xE0 a h tt, after 0xF0 0xF0 0xE1 0xEC a h tt, after 0xF0 0xF0 0xED 0xED a h tt, after 0xF0 0xF0 0xEE 0xEF a h tt, is_true (row4 0xF0 0xF0 0x90 0xBF a b c d) t)
wide-four a b c d (f1 t) =
    let h = first4 0xF1 0xF3 0x80 0xBF a b c d t in
    rw (after 0xF1 0xF3 0x00 0x7F a h tt, after 0xF1 0xF3 0xC2 0xDF a h tt, after 0xF1 0xF3 0xE0 0xE0 a h tt, after 0xF1 0xF3 0xE1 0xEC a h tt, after 0xF1 0xF3 0xED 0xED a h tt, after 0xF1 0xF3 0xEE 0xEF a h tt, after 0xF1 0xF3 0xF0 0xF0 a h tt, is_true (row4 0xF1 0xF3 0x80 0xBF a b c d) t)
wide-four a b c d (f4 t) =
    let h = first4 0xF4 0xF4 0x80 0x8F a b c d t in
    rw (after 0xF4 0xF4 0x00 0x7F a h tt, after 0xF4 0xF4 0xC2 0xDF a h tt, after 0xF4 0xF4 0xE0 0xE0 a h tt, after 0xF4 0xF4 0xE1 0xEC a h tt, after 0xF4 0xF4 0xED 0xED a h tt, after 0xF4 0xF4 0xEE 0xEF a h tt, after 0xF4 0xF4 0xF0 0xF0 a h tt, after 0xF4 0xF4 0xF1 0xF3 a h tt, is_true (row4 0xF4 0xF4 0x80 0x8F a b c d) t)

-- ---- what the grammar derives is counted
begin : (c s : List ℕ) → Char c → characters_in 0 (c ++ s) ≡ plus 1 (characters_in 0 s)
unfolding characters_in
begin c s (one {a} t) = rw (wide-one a (get_or s 0 0) (get_or s 1 0) (get_or s 2 0) t)
begin c s (two {a} {b} t) = rw (wide-two a b (get_or s 0 0) (get_or s 1 0) t)
begin c s (three {a} {b} {c = z} t) = rw (wide-three a b z (get_or s 0 0) t)
begin c s (four {a} {b} {c = z} {d} t) = rw (wide-four a b z d t)

pub complete : {s : List ℕ} {n : ℕ} → Text s n → characters_in 0 s ≡ Characters n
unfolding characters_in
complete none = refl
complete (more {c} {s} {n} k t) = begin c s k ∙ ap (plus 1) (complete t) ∙ ap Characters (omega arith)

-- ---- what is counted, the grammar derives
data Wide : ℕ → ℕ → ℕ → ℕ → ℕ → Type 0 where
  bad : {a b c d : ℕ} → Wide 0 a b c d
  w1 : {a b c d : ℕ} → T (within 0x00 0x7F a) → Wide 1 a b c d
  w2 : {a b c d : ℕ} → T (row2 0xC2 0xDF 0x80 0xBF a b) → Wide 2 a b c d
  w3 : {a b c d : ℕ} → Three a b c → Wide 3 a b c d
  w4 : {a b c d : ℕ} → Four a b c d → Wide 4 a b c d

pass : {a b c d k m : ℕ} (t : Bool) → (T t → Wide k a b c d) → Wide m a b c d → Wide (cond t k m) a b c d
pass true f g = f tt
pass false f g = g

wide : (a b c d : ℕ) → Wide (width a b c d) a b c d
unfolding width
wide a b c d =
    pass (within 0x00 0x7F a) w1
    (pass (row2 0xC2 0xDF 0x80 0xBF a b) w2
    (pass (row3 0xE0 0xE0 0xA0 0xBF a b c) (λ t. w3 (e0 t))
    (pass (row3 0xE1 0xEC 0x80 0xBF a b c) (λ t. w3 (e1 t))
    (pass (row3 0xED 0xED 0x80 0x9F a b c) (λ t. w3 (ed t))
    (pass (row3 0xEE 0xEF 0x80 0xBF a b c) (λ t. w3 (ee t))
    (pass (row4 0xF0 0xF0 0x90 0xBF a b c d) (λ t. w4 (f0 t))
    (pass (row4 0xF1 0xF3 0x80 0xBF a b c d) (λ t. w4 (f1 t))
    (pass (row4 0xF4 0xF4 0x80 0x8F a b c d) (λ t. w4 (f4 t))
    bad))))))))

-- no row has a 0 after its first byte
second : (lo hi lo' hi' a : ℕ) → T (ltb 0 lo') → T (row2 lo hi lo' hi' a 0) → ⊥
second lo hi lo' hi' a l t = not-suc-le-zero (lt_of_lt_of_le (lit< {m = 0} {n = lo'} l) (leb→le lo' 0 (and_l (leb lo' 0) (leb 0 hi') (and_r (within lo hi a) (within lo' hi' 0) t))))

third3 : (a b : ℕ) → Three a b 0 → ⊥
third3 a b (e0 t) = and_r (row2 0xE0 0xE0 0xA0 0xBF a b) _ t
third3 a b (e1 t) = and_r (row2 0xE1 0xEC 0x80 0xBF a b) _ t
third3 a b (ed t) = and_r (row2 0xED 0xED 0x80 0x9F a b) _ t
third3 a b (ee t) = and_r (row2 0xEE 0xEF 0x80 0xBF a b) _ t

-- a row of four bytes has a 0 nowhere after its first
fourth : (a b c : ℕ) → Four a b c 0 → ⊥
fourth a b c (f0 t) = and_r (row3 0xF0 0xF0 0x90 0xBF a b c) _ t
fourth a b c (f1 t) = and_r (row3 0xF1 0xF3 0x80 0xBF a b c) _ t
fourth a b c (f4 t) = and_r (row3 0xF4 0xF4 0x80 0x8F a b c) _ t

-- a character ends within the text that begins with it
fits : (a : ℕ) (s : List ℕ) (w : ℕ) → Wide w a (get_or s 0 0) (get_or s 1 0) (get_or s 2 0) → w ≤ suc (length s)
fits a s w bad = omega arith
fits a s w (w1 t) = omega arith
fits a [] w (w2 t) = absurd (second 0xC2 0xDF 0x80 0xBF a tt t)
fits a (b ∷ s) w (w2 t) = omega arith
fits a [] w (w3 t) = absurd (third3 a 0 t)
fits a (b ∷ []) w (w3 t) = absurd (third3 a b t)
fits a (b ∷ c ∷ s) w (w3 t) = omega arith
fits a [] w (w4 t) = absurd (fourth a 0 0 t)
fits a (b ∷ []) w (w4 t) = absurd (fourth a b 0 t)
fits a (b ∷ c ∷ []) w (w4 t) = absurd (fourth a b c t)
fits a (b ∷ c ∷ d ∷ s) w (w4 t) = omega arith

pub first_fits : (s : List ℕ) → 0 < length s → width_at s 0 ≤ length s
first_fits [] h = absurd (omega (arith, h))
first_fits (a ∷ s) h = fits a s (width a (get_or s 0 0) (get_or s 1 0) (get_or s 2 0)) (wide a (get_or s 0 0) (get_or s 1 0) (get_or s 2 0))

counted : (x : Counted) (n : ℕ) → plus 1 x ≡ Characters n → (m : ℕ) × (x ≡ Characters m) × (n ≡ suc m)
counted (Characters m) n e = (m, refl, (let i : 1 + m ≡ n = cc in omega arith))
counted Malformed n e = let z : ◌≡◌ {A = ℕ} 0 1 = cc in absurd (omega arith)

-- what is derived so far, for the texts of at most k bytes
abbrev Upto : ℕ → Type 0
Upto k = (t : List ℕ) (m : ℕ) → length t ≤ k → characters_in 0 t ≡ Characters m → Text t m

before : (k n : ℕ) (c s : List ℕ) → Char c → length s ≤ k → Upto k → plus 1 (characters_in 0 s) ≡ Characters n → Text (c ++ s) n
before k n c s h l ih e =
    let r = counted (characters_in 0 s) n e in
    subst (λ (x : ℕ). Text (c ++ s) x) (sym r.2) (more h (ih s r.0 l r.1))

step : (k a : ℕ) (s : List ℕ) (n : ℕ) → length s ≤ k → Upto k
    → (w : ℕ) → Wide w a (get_or s 0 0) (get_or s 1 0) (get_or s 2 0) → cond (eqb w 0) Malformed (plus 1 (characters_in (w - 1) s)) ≡ Characters n → Text (a ∷ s) n
unfolding characters_in
step k a s n l ih w bad e = let z : ◌≡◌ {A = ℕ} 0 1 = cc in absurd (omega arith)
step k a s n l ih w (w1 t) e = before k n (a ∷ []) s (one t) l ih e
step k a [] n l ih w (w2 t) e = absurd (second 0xC2 0xDF 0x80 0xBF a tt t)
step k a (b ∷ s) n l ih w (w2 t) e = before k n (a ∷ b ∷ []) s (two t) (le_trans (le-suc (length s)) l) ih e
step k a [] n l ih w (w3 t) e = absurd (third3 a 0 t)
step k a (b ∷ []) n l ih w (w3 t) e = absurd (third3 a b t)
step k a (b ∷ c ∷ s) n l ih w (w3 t) e = before k n (a ∷ b ∷ c ∷ []) s (three t) (omega arith) ih e
step k a [] n l ih w (w4 t) e = absurd (fourth a 0 0 t)
step k a (b ∷ []) n l ih w (w4 t) e = absurd (fourth a b 0 t)
step k a (b ∷ c ∷ []) n l ih w (w4 t) e = absurd (fourth a b c t)
step k a (b ∷ c ∷ d ∷ s) n l ih w (w4 t) e = before k n (a ∷ b ∷ c ∷ d ∷ []) s (four t) (omega arith) ih e

empty : (n : ℕ) → characters_in 0 [] ≡ Characters n → Text [] n
unfolding characters_in
empty n e = let i : n ≡ 0 = cc in subst (λ (x : ℕ). Text [] x) (sym i) none

upto : (k : ℕ) → Upto k
unfolding characters_in
upto zero [] n l e = empty n e
upto zero (a ∷ s) n l e = absurd (not-suc-le-zero l)
upto (suc k) [] n l e = empty n e
upto (suc k) (a ∷ s) n l e = step k a s n (le_of_suc-le-suc l) (upto k) (width a (get_or s 0 0) (get_or s 1 0) (get_or s 2 0)) (wide a (get_or s 0 0) (get_or s 1 0) (get_or s 2 0)) e

pub sound : (s : List ℕ) (n : ℕ) → characters_in 0 s ≡ Characters n → Text s n
sound s n e = upto (length s) s n (le_refl (length s)) e

-- and what is refused it does not derive
pub refused : (s : List ℕ) (n : ℕ) → characters_in 0 s ≡ Malformed → Text s n → ⊥
refused s n e t = let f = complete t in let z : ◌≡◌ {A = ℕ} 0 1 = cc in omega arith
