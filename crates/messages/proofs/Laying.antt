-- Bytes written one part after the other. Assumes nothing.
use mathlib.Core.Path.{◌≡◌, refl, sym, ap, ◌∙◌}
use mathlib.Core.Bool.{Bool, true, false, ◌&&◌, ◌||◌, true≢false}
use mathlib.Core.List.{List, ◌∷◌, ◌++◌}
use Prim.Native.Nat.{ℕ, suc, ◌+◌, ◌≤◌, ◌<◌}
use native.Mathlib.Omega.{arith}
use native.Mathlib.Nat.{zero-add}
use borrow.Author.Tests.{le-leb, leb-true, eqb-true}
use lib.Dec.{leb, eqb}
use lib.ListN.{length, set, take, drop, length-set}
use lib.Seq.{sets, sets-eq, length-sets, take-append_seam}
use Rattle.wire.specs.Bytes.{bytes_of, laid}
use Rattle.wire.proofs.Width.{bytes-long}
use Rattle.wire.proofs.Laid.{laid-fits, sets_behind}
use Rattle.messages.specs.Layout.{is_value_carrier, head_bytes}

head-long : (command element ddi : ℕ) → length (head_bytes command element ddi) ≡ 4
unfolding head_bytes
head-long command element ddi = ap (λ (n : ℕ). suc (suc n)) (bytes-long 2 ddi)

-- two more bytes, and then a number
pub head-laid : (to : List ℕ) (command element ddi a b : ℕ) → 8 ≤ length to → laid (set (set to 0 a) 1 b) 2 (bytes_of 2 ddi) ≡ sets to 0 (a ∷ b ∷ bytes_of 2 ddi)
head-laid to command element ddi a b h =
    let n : length (set (set to 0 a) 1 b) ≡ length to = length-set (set to 0 a) 1 b ∙ length-set to 0 a in
    let m : length (bytes_of 2 ddi) ≡ 2 = bytes-long 2 ddi in
    laid-fits (set (set to 0 a) 1 b) 2 (bytes_of 2 ddi) (le-leb (2 + length (bytes_of 2 ddi)) (length (set (set to 0 a) 1 b)) (omega arith))

-- the second half of a message behind its head
pub behind-head : (to after : List ℕ) (command element ddi : ℕ) (bs : List ℕ) → after ≡ sets to 0 (head_bytes command element ddi)
    → sets after 4 bs ≡ sets to 0 (head_bytes command element ddi ++ bs)
behind-head to after command element ddi bs e =
    let n : 4 ≡ 0 + length (head_bytes command element ddi) = sym (zero-add (length (head_bytes command element ddi)) ∙ head-long command element ddi) in
    ap (λ (k : ℕ). sets after k bs) n ∙ ap (λ (l : List ℕ). sets l (0 + length (head_bytes command element ddi)) bs) e ∙ sets_behind (head_bytes command element ddi) bs to 0

pub value-laid : (to after : List ℕ) (command element ddi x : ℕ) → 8 ≤ length to → after ≡ sets to 0 (head_bytes command element ddi)
    → laid after 4 (bytes_of 4 x) ≡ sets to 0 (head_bytes command element ddi ++ bytes_of 4 x)
value-laid to after command element ddi x h e =
    let n : length after ≡ length to = ap length e ∙ length-sets to 0 (head_bytes command element ddi) in
    let m : length (bytes_of 4 x) ≡ 4 = bytes-long 4 x in
    laid-fits after 4 (bytes_of 4 x) (le-leb (4 + length (bytes_of 4 x)) (length after) (omega arith)) ∙ behind-head to after command element ddi (bytes_of 4 x) e

-- a message laid down is the first eight bytes
pub first-eight : (to bs : List ℕ) → length bs ≡ 8 → 8 ≤ length to → take 8 (sets to 0 bs) ≡ bs
first-eight to bs n h =
    ap (λ (k : ℕ). take k (sets to 0 bs)) (sym n) ∙ ap (take (length bs)) (sets-eq bs to 0 (omega arith)) ∙ take-append_seam bs (drop (0 + length bs) to)

-- a command that carries a value fits half a byte
pub command-small : (c : ℕ) → is_value_carrier c ≡ true → c < 16
command-small c e = go (leb 2 c) (leb c 8) (eqb c 10) refl refl e
  where
    go : (a b d : Bool) → leb c 8 ≡ b → eqb c 10 ≡ d → ((a && b) || d) ≡ true → c < 16
    go true true d q r e = let l = leb-true c 8 q in omega arith
    go true false true q r e = let l = eqb-true c 10 r in omega arith
    go true false false q r e = absurd (true≢false (sym e))
    go false b true q r e = let l = eqb-true c 10 r in omega arith
    go false b false q r e = absurd (true≢false (sym e))
