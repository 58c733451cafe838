-- The examiner and the grammar agree. Assumes nothing.
use mathlib.Core.Path.{◌≡◌, refl, sym, ap, ◌∙◌}
use mathlib.Core.Bool.{Bool, true, false, cond, ◌&&◌, true≢false, and-false}
use mathlib.Core.List.{List, [], ◌∷◌}
use Prim.Native.Nat.{ℕ, suc, ◌≤◌, ◌<◌}
use native.Mathlib.Omega.{arith}
use borrow.Author.Tests.{le-leb, leb-true, eqb-true, ne_eqb}
use lib.Dec.{eqb}
use native.Mathlib.Decide.{dec_lt}
use Rattle.std.specs.Str.{IsAscii}
use Rattle.std.proofs.lemmas.Str.Ascii.{All-from_ascii}
use Rattle.std.proofs.lemmas.List.Elements.{All-get_or}
use Rattle.wire.proofs.Either.{both}
use Rattle.text.specs.Characters.{characters_in}
use Rattle.text.specs.Examined.{marked, few, sound_text, Sound, Examined}
use Rattle.text.specs.Characters.{Counted, Characters, Malformed}
use lib.ListN.{length, get_or, get_or-eq_default}
use Rattle.text.proofs.Steps.{single}
use Rattle.text.proofs.Derived.{complete, sound}

-- bytes that do not begin with the mark
unmarked : (s : List ℕ) → ((rest : List ℕ) → s ≡ 0xEF ∷ 0xBB ∷ 0xBF ∷ rest → ⊥) → marked s ≡ false
unmarked [] n = refl
unmarked (a ∷ []) n = and-false (eqb a 0xEF)
unmarked (a ∷ b ∷ []) n = ap (λ (x : Bool). eqb a 0xEF && x) (and-false (eqb b 0xBB)) ∙ and-false (eqb a 0xEF)
unmarked (a ∷ b ∷ c ∷ rest) n = go (marked (a ∷ b ∷ c ∷ rest)) refl
  where
    go : (t : Bool) → marked (a ∷ b ∷ c ∷ rest) ≡ t → t ≡ false
    go false e = refl
    go true e =
        let x = both (eqb a 0xEF) (eqb b 0xBB && eqb c 0xBF) e in
        let y = both (eqb b 0xBB) (eqb c 0xBF) x.1 in
        let ea : a ≡ 0xEF = eqb-true a 0xEF x.0 in
        let eb : b ≡ 0xBB = eqb-true b 0xBB y.0 in
        let ec : c ≡ 0xBF = eqb-true c 0xBF y.1 in
        absurd (n rest (rw (ea, eb, ec)))

not-marked : (s : List ℕ) (t : Bool) (x : Bool) → cond t false x ≡ true → (t ≡ false) × (x ≡ true)
not-marked s true x e = absurd (true≢false (sym e))
not-marked s false x e = (refl, e)

found : (s : List ℕ) → sound_text s ≡ true → Sound s
unfolding sound_text
found s e =
    let m = not-marked s (marked s) (few (characters_in 0 s)) e in
    go m.0 (characters_in 0 s) refl m.1
  where
    plain : marked s ≡ false → (rest : List ℕ) → s ≡ 0xEF ∷ 0xBB ∷ 0xBF ∷ rest → ⊥
    plain n rest x = true≢false (sym (ap marked x) ∙ n)

    go : marked s ≡ false → (c : Counted) → characters_in 0 s ≡ c → few c ≡ true → Sound s
    go n (Characters k) x f = record { characters = k; text = sound s k x; few = leb-true k 32 f; plain = plain n }
    go n Malformed x f = absurd (true≢false (sym f))

kept : (s : List ℕ) → Sound s → sound_text s ≡ true
unfolding sound_text
kept s t = rw (unmarked s t.plain, complete t.text) (le-leb t.characters 32 t.few)

pub examined : (s : List ℕ) → Examined s
examined s = (found s, kept s)

unmarked-first : (s : List ℕ) → (get_or s 0 0 ≡ 0xEF → ⊥) → marked s ≡ false
unmarked-first s n = rw (ne_eqb (get_or s 0 0) 0xEF n)

-- what the examiner answers, case by case
pub sound-marked : (s : List ℕ) → marked s ≡ true → sound_text s ≡ false
unfolding sound_text
sound-marked s m = rw m

pub sound-counted : (s : List ℕ) (c : Counted) → marked s ≡ false → characters_in 0 s ≡ c → sound_text s ≡ few c
unfolding sound_text
sound-counted s c m e = rw (m, e)

-- bytes below 80 are a character each
single-bytes : (s : List ℕ) → ((k : ℕ) → get_or s k 0 < 0x80) → characters_in 0 s ≡ Characters (length s)
unfolding characters_in
single-bytes [] h = refl
single-bytes (a ∷ s) h =
    rw (single a (get_or s 0 0) (get_or s 1 0) (get_or s 2 0) (h 0), single-bytes s (λ (k : ℕ). h (suc k))) (ap Characters (omega arith))

pub sound-single : (s : List ℕ) → ((k : ℕ) → get_or s k 0 < 0x80) → length s ≤ 32 → sound_text s ≡ true
sound-single s h n =
    sound-counted s (Characters (length s)) (unmarked-first s (λ (e : get_or s 0 0 ≡ 0xEF). omega (arith, h 0))) (single-bytes s h)
    ∙ le-leb (length s) 32 n

pub sound-ascii : (s : List ℕ) → IsAscii s → length s ≤ 32 → sound_text s ≡ true
sound-ascii s h n = sound-single s (λ (k : ℕ). go k (dec_lt k (length s))) n
  where
    go : (k : ℕ) → Dec (k < length s) → get_or s k 0 < 0x80
    go k (yes l) = All-get_or (λ (b : ℕ). b < 0x80) s k 0 l (All-from_ascii s h)
    go k (no l) = rw (get_or-eq_default s 0 {n = k} (omega arith)) (omega arith)
