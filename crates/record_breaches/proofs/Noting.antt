-- Tags one after the other, and the bits that are set for their remainders. Assumes nothing.
use mathlib.Core.Path.{◌≡◌, sym, ap, ◌∙◌}
use mathlib.Core.Bool.{true, false, true≢false, ◌||◌}
use mathlib.Core.Logic.{⊎_elim}
use mathlib.Core.List.{List}
use Prim.Native.Nat.{ℕ, ◌+◌, ◌*◌, ◌≤◌, ◌<◌, ◌%◌}
use native.Mathlib.Nat.{eq-or-lt_of_le, mod-lt}
use native.Mathlib.Omega.{arith}
use borrow.Author.Tests.{eq-eqb}
use lib.Dec.{eqb}
use lib.ListN.{length}
use Rattle.marks.specs.Bits.{bit_at}
use Rattle.rules.proofs.Truth.{to-left, to-right}
use Rattle.field_rules.specs.Clean.{Apart}
use Rattle.field_rules.proofs.Clearing.{apart_none, apart_more}

-- the first m tags are apart, and each has left its bit
pub record Noted (tag : ℕ → ℕ) (m : ℕ) (bits : List ℕ) : Type 0 where
  pub apart : Apart tag m
  pub left : (j : ℕ) → j < m → bit_at bits (tag j % 16384) ≡ true

pub noted-none : (tag : ℕ → ℕ) (bits : List ℕ) → Noted tag 0 bits
noted-none tag bits = record { apart = apart_none tag; left = λ j l. absurd (omega (arith, l)) }

-- a tag whose bit is free is a new one
module _ (tag : ℕ → ℕ) (m : ℕ) (bits bits' : List ℕ) (noted : Noted tag m bits) (x : ℕ) (is : x ≡ tag m) (room : 2048 ≤ length bits)
    (after : (j : ℕ) → j < 8 * length bits → bit_at bits' j ≡ (eqb j (x % 16384) || bit_at bits j)) where
  inside : (t : ℕ) → t % 16384 < 8 * length bits
  inside t =
      let small : t % 16384 < 16384 = mod-lt t (omega arith) in
      omega (arith, small, room)

  pub noted_more : (x ≡ 0 → ⊥) → bit_at bits (x % 16384) ≡ false → Noted tag (m + 1) bits'
  noted_more some free =
      record {
        apart = apart_more tag m noted.apart (λ (e : tag m ≡ 0). some (is ∙ e))
            (λ (j : ℕ) (l : j < m) (e : tag j ≡ tag m). true≢false (sym (noted.left j l) ∙ ap (λ (t : ℕ). bit_at bits (t % 16384)) (e ∙ sym is) ∙ free));
        left = λ (j : ℕ) (l : j < m + 1). after (tag j % 16384) (inside (tag j)) ∙ ⊎_elim (λ (s : j ≡ m). here j s) (λ (s : j < m). to-right (eqb (tag j % 16384) (x % 16384)) (noted.left j s)) (eq-or-lt_of_le (omega arith));
      }
    where
      here : (j : ℕ) → j ≡ m → eqb (tag j % 16384) (x % 16384) || bit_at bits (tag j % 16384) ≡ true
      here j s = to-left (bit_at bits (tag j % 16384)) (eq-eqb (tag j % 16384) (x % 16384) (ap (λ (t : ℕ). t % 16384) (ap tag s ∙ sym is)))
