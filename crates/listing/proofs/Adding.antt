-- Bytes added to a line. Assumes nothing.
use mathlib.Core.Path.{◌≡◌, refl, sym, ap, ◌∙◌}
use mathlib.Core.List.{List, [], ◌++◌}
use Prim.Native.Nat.{ℕ, zero, suc, ◌+◌, ◌≤◌, ◌<◌, ◌^◌}
use native.Mathlib.Omega.{arith}
use borrow.Author.Tests.{le-leb}
use lib.ListN.{length, take, drop, length-append}
use lib.Seq.{sets-eq, take_at, length-take-le}
use Rattle.wire.specs.Bytes.{laid}
use Rattle.wire.proofs.Laid.{laid-fits}
use Rattle.decimal.specs.Digits.{digits, place_after}
use Rattle.decimal.proofs.Digits.{digits-few}
use Rattle.decimal.proofs.Places.{after-fits}
use Rattle.listing.specs.Lines.{letters}

module _ (d : List ℕ) (n : ℕ) (s : List ℕ) (room : n + length s ≤ length d) where
  -- what was there before stays, and the bytes follow it
  pub added : take (n + length s) (laid d n s) ≡ take n d ++ s
  added =
      let front : length (take n d) ≡ n = length-take-le n d (omega arith) in
      ap (take (n + length s)) (laid-fits d n s (le-leb (n + length s) (length d) room) ∙ sets-eq s d n room)
      ∙ take_at (take n d ++ s) (drop (n + length s) d) (n + length s) (length-append (take n d) s ∙ ap (λ (k : ℕ). k + length s) front)

  pub goes_on : place_after d n s ≡ n + length s
  goes_on = after-fits d n s (le-leb (n + length s) (length d) room)

-- the same where the first n bytes are a line
module _ (memory : List ℕ) (n : ℕ) (line s : List ℕ) (is : line ≡ take n memory) (within : n ≤ length memory) (room : length line + length s ≤ length memory) where
  pub line-room : n + length s ≤ length memory
  line-room = let long : length line ≡ n = ap length is ∙ length-take-le n memory within in omega arith

  pub line-added : take (n + length s) (laid memory n s) ≡ line ++ s
  line-added = added memory n s line-room ∙ ap (λ (l : List ℕ). l ++ s) (sym is)

  pub line-goes_on : place_after memory n s ≡ n + length s
  line-goes_on = goes_on memory n s line-room

-- a number of 64 bits has at most 20 digits
pub twenty : (x : ℕ) → x < 2 ^ 64 → length (digits x) ≤ 20
twenty x h = digits-few 20 x (omega arith) (omega arith)

-- a line of 128 bytes has room for the digits where it had room for twenty
pub number-room : (memory line word begun : List ℕ) (x : ℕ) → length memory ≡ 128 → begun ≡ line ++ word → length line + length word + 20 ≤ 128 → length (digits x) ≤ 20 → length begun + length (digits x) ≤ length memory
number-room memory line word begun x long is room few = rw is (simp length-append (omega arith))

-- a number that no kind has has no mark
pub no-mark : (k : ℕ) → (k ≡ 1 → ⊥) → (k ≡ 2 → ⊥) → (k ≡ 3 → ⊥) → (k ≡ 4 → ⊥) → (k ≡ 5 → ⊥) → letters k ≡ []
unfolding letters
no-mark zero a b c d e = refl
no-mark (suc zero) a b c d e = absurd (a refl)
no-mark (suc (suc zero)) a b c d e = absurd (b refl)
no-mark (suc (suc (suc zero))) a b c d e = absurd (c refl)
no-mark (suc (suc (suc (suc zero)))) a b c d e = absurd (d refl)
no-mark (suc (suc (suc (suc (suc zero))))) a b c d e = absurd (e refl)
no-mark (suc (suc (suc (suc (suc (suc k)))))) a b c d e = refl
