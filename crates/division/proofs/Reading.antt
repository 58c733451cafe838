-- What bytes can be when read from their start as a field or a record: all of it and more, a beginning of it, or wrong. Assumes nothing.
use mathlib.Core.Path.{◌≡◌, sym, ap, ◌∙◌}
use mathlib.Core.List.{List, ◌++◌, append_assoc}
use Prim.Native.Nat.{ℕ, ◌-◌, ◌≤◌, ◌<◌}
use native.Mathlib.Omega.{arith}
use native.Mathlib.Decide.{dec_le}
use lib.ListN.{length, take, drop, replicate, length-append, length-replicate, take-append-drop}
use lib.Seq.{length-take-le, take-append-le, drop-append-le, take-append_seam, drop-append_seam}

pub data Reading (P : List ℕ → Type 0) (Wrong : Type 0) (s : List ℕ) : Type 0 where
  whole : (b rest : List ℕ) → s ≡ b ++ rest → P b → Reading P Wrong s
  cut : (missing : List ℕ) → 0 < length missing → P (s ++ missing) → Reading P Wrong s
  wrong : Wrong → Reading P Wrong s

-- what is read behind other bytes is read with them
pub behind : {P Q : List ℕ → Type 0} {W W' : Type 0} (front s : List ℕ) → ((b : List ℕ) → P b → Q (front ++ b)) → (W → W')
    → Reading P W s → Reading Q W' (front ++ s)
behind front s f g (whole b rest e h) = whole (front ++ b) rest (ap (λ (l : List ℕ). front ++ l) e ∙ sym (append_assoc front b rest)) (f b h)
behind front s f g (cut m l h) = cut m l (rw append_assoc (f (s ++ m) h))
behind front s f g (wrong w) = wrong (g w)

-- so many bytes are there, or some of them are missing
pub enough : {W : Type 0} (n : ℕ) (s : List ℕ) → Reading (λ (b : List ℕ). length b ≡ n) W s
enough {W} n s = go (dec_le n (length s))
  where
    go : Dec (n ≤ length s) → Reading (λ (b : List ℕ). length b ≡ n) W s
    go (yes h) = whole (take n s) (drop n s) (sym (take-append-drop n s)) (length-take-le n s h)
    go (no h) =
        let m : List ℕ = replicate (n - length s) 0 in
        let l : length m ≡ n - length s = length-replicate (n - length s) 0 in
        cut m (omega arith) (omega (arith, length-append s m))

-- of two fronts of the same bytes the longer begins with the shorter
pub longer-front : (a b c d : List ℕ) → a ++ b ≡ c ++ d → length a ≤ length c
    → (c ≡ a ++ drop (length a) c) × (b ≡ drop (length a) c ++ d)
longer-front a b c d e h =
    let n : ℕ = length a in
    let t : take n c ≡ a = sym (take-append-le n c d h) ∙ ap (take n) (sym e) ∙ take-append_seam a b in (
      sym (take-append-drop n c) ∙ ap (λ (l : List ℕ). l ++ drop n c) t,
      sym (drop-append_seam a b) ∙ ap (drop n) e ∙ drop-append-le n c d h,
    )
