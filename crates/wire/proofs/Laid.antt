-- Laws about writing bytes over others. Assumes nothing.
use mathlib.Core.Path.{◌≡◌, refl, sym, ap, ◌∙◌}
use mathlib.Core.List.{List, [], ◌∷◌, ◌++◌, append-nil, append_assoc}
use mathlib.Core.Bool.{Bool, true, false}
use Prim.Native.Nat.{ℕ, suc, ◌+◌, ◌-◌, ◌≤◌, ◌<◌}
use native.Mathlib.Omega.{arith}
use native.Mathlib.Nat.{add-zero}
use native.Mathlib.Numerals.{add-one}
use borrow.Author.Tests.{le-leb, lt-leb, leb-true, leb-false}
use lib.Dec.{leb}
use lib.ListN.{length, get_or, set, drop, drop_of_length-le}
use lib.Seq.{sets, sets-eq, drop-cons}
use borrow.Rule.Slice.PartMut.{put_mid}
use Rattle.std.proofs.lemmas.Slice.{put_mid-paste}
use Rattle.std.proofs.lemmas.List.Edits.{paste_all}
use Rattle.wire.specs.Bytes.{laid}

pub laid-fits : (d : List ℕ) (at : ℕ) (bs : List ℕ) → leb (at + length bs) (length d) ≡ true → laid d at bs ≡ sets d at bs
unfolding laid
laid-fits d at bs h = rw h

pub laid-short : (d : List ℕ) (at : ℕ) (bs : List ℕ) → leb (at + length bs) (length d) ≡ false → laid d at bs ≡ d
unfolding laid
laid-short d at bs h = rw h

-- bytes laid behind others are laid with them
pub sets_behind : (xs ys d : List ℕ) (i : ℕ) → sets (sets d i xs) (i + length xs) ys ≡ sets d i (xs ++ ys)
sets_behind [] ys d i = ap (λ (n : ℕ). sets d n ys) (add-zero i)
sets_behind (x ∷ xs) ys d i = ap (λ (n : ℕ). sets (sets (set d i x) (suc i) xs) n ys) (further i (length xs)) ∙ sets_behind xs ys (set d i x) (suc i)
  where
    further : (i n : ℕ) → i + suc n ≡ suc i + n
    further i n = omega arith

-- bytes written over a part of others are laid there
pub part-laid : (d bs : List ℕ) (at k : ℕ) → at + length bs ≤ length d → length bs ≡ k → put_mid at k d bs ≡ sets d at bs
part-laid d bs at k room e =
    put_mid-paste at k d bs bs (length bs) refl e refl ∙ paste_all d at bs (length bs) refl ∙ sym (rw append_assoc at (sets-eq bs d at room))

-- bytes written over as many others
pub whole-laid : (d bs : List ℕ) → length bs ≡ length d → sets d 0 bs ≡ bs
whole-laid d bs e = sets-eq bs d 0 (omega arith) ∙ ap (λ (r : List ℕ). [] ++ bs ++ r) (drop_of_length-le d (omega arith)) ∙ append-nil bs

-- one more byte is laid
pub lay_step : (d s : List ℕ) (at i : ℕ) → i < length s → sets d (at + i) (drop i s) ≡ sets (set d (at + i) (get_or s i 0)) (at + (i + 1)) (drop (i + 1) s)
lay_step d s at i h =
    let f : at + (i + 1) ≡ suc (at + i) = omega arith in
    rw (drop-cons s i 0 h, f, add-one i)

-- the test for room, made without a sum
pub room-late : (len at n : ℕ) → len < at → leb (at + n) len ≡ false
room-late len at n h = lt-leb (at + n) len (omega arith)

pub room-left : (len at n : ℕ) → at ≤ len → leb n (len - at) ≡ leb (at + n) len
room-left len at n h = go (leb n (len - at)) refl
  where
    go : (b : Bool) → leb n (len - at) ≡ b → b ≡ leb (at + n) len
    go true e = sym (le-leb (at + n) len (omega (arith, leb-true n (len - at) e)))
    go false e = sym (lt-leb (at + n) len (omega (arith, leb-false n (len - at) e)))
