-- Bytes at equal distances, compared with a limit one by one. Assumes nothing.
use mathlib.Core.Path.{◌≡◌, refl, sym, ap, ◌∙◌}
use mathlib.Core.Bool.{Bool, true, false, ◌||◌}
use mathlib.Core.List.{List}
use Prim.Native.Nat.{ℕ, zero, suc, ◌+◌, ◌-◌, ◌*◌, ◌≤◌, ◌<◌}
use native.Mathlib.Omega.{arith}
use borrow.Author.Tests.{lt-leb}
use lib.Dec.{leb}
use lib.ListN.{get_or}
use Rattle.std.specs.List.{list_any, range_with_len}
use Rattle.time_log.specs.Contents.{spaced}
use Rattle.time_log.specs.Judging.{one_over}

-- byte by byte, by the numbers of a range
pub over-each : (limit n from : ℕ) (s : List ℕ) (at : ℕ) → list_any (λ k. leb limit (get_or s (at + 5 * k) 0)) (range_with_len from n) ≡ one_over limit (spaced 5 n s (at + 5 * from))
unfolding one_over spaced
over-each limit zero from s at = refl
over-each limit (suc n) from s at =
    let next : at + 5 * (from + 1) ≡ at + 5 * from + 5 = omega arith in
    ap (λ (b : Bool). leb limit (get_or s (at + 5 * from) 0) || b)
    (over-each limit n (from + 1) s at ∙ ap (λ (p : ℕ). one_over limit (spaced 5 n s p)) next)

-- four bytes at once
abbrev pub four_over : ℕ → List ℕ → ℕ → Bool
four_over logged s p = leb logged (get_or s p 0) || (leb logged (get_or s (p + 5) 0) || (leb logged (get_or s (p + 10) 0) || leb logged (get_or s (p + 15) 0)))

apart : (logged n : ℕ) (s : List ℕ) (p q r t u : ℕ) → p + 5 ≡ q → q + 5 ≡ r → r + 5 ≡ t → t + 5 ≡ u
    → ((leb logged (get_or s p 0) || (leb logged (get_or s q 0) || (leb logged (get_or s r 0) || leb logged (get_or s t 0)))) || one_over logged (spaced 5 n s u)) ≡ one_over logged (spaced 5 (suc (suc (suc (suc n)))) s p)
unfolding one_over spaced
apart logged n s p q r t u a b c d =
    rw (a, b, c, d) (regroup (leb logged (get_or s p 0)) (leb logged (get_or s q 0)) (leb logged (get_or s r 0)) (leb logged (get_or s t 0)) (one_over logged (spaced 5 n s u)))
  where
    regroup : (a b c d e : Bool) → ((a || (b || (c || d))) || e) ≡ (a || (b || (c || (d || e))))
    regroup true b c d e = refl
    regroup false true c d e = refl
    regroup false false true d e = refl
    regroup false false false true e = refl
    regroup false false false false e = refl

over-four : (logged left less : ℕ) (s : List ℕ) (p q : ℕ) → less + 4 ≡ left → p + 20 ≡ q
    → (four_over logged s p || one_over logged (spaced 5 less s q)) ≡ one_over logged (spaced 5 left s p)
over-four logged left less s p q h e =
    let f : left ≡ suc (suc (suc (suc less))) = omega arith in
    apart logged less s p (p + 5) (p + 10) (p + 15) q refl (omega arith) (omega arith) (omega arith) ∙ ap (λ (n : ℕ). one_over logged (spaced 5 n s p)) (sym f)

pub four-here : (logged left : ℕ) (s : List ℕ) (p : ℕ) → 4 ≤ left → four_over logged s p ≡ true → true ≡ one_over logged (spaced 5 left s p)
four-here logged left s p h t =
    ap (λ (b : Bool). b || one_over logged (spaced 5 (left - 4) s (p + 20))) (sym t) ∙ over-four logged left (left - 4) s p (p + 20) (omega arith) refl

pub four-next : (logged left less : ℕ) (s : List ℕ) (p q : ℕ) → less + 4 ≡ left → p + 20 ≡ q → four_over logged s p ≡ false
    → one_over logged (spaced 5 less s q) ≡ one_over logged (spaced 5 left s p)
four-next logged left less s p q h e t = ap (λ (b : Bool). b || one_over logged (spaced 5 less s q)) (sym t) ∙ over-four logged left less s p q h e

-- no byte is above 255
pub over-high : (logged step n : ℕ) (s : List ℕ) (p : ℕ) → ((i : ℕ) → get_or s i 0 < 256) → 255 < logged → false ≡ one_over logged (spaced step n s p)
unfolding one_over spaced
over-high logged step zero s p b h = refl
over-high logged step (suc n) s p b h =
    rw (lt-leb logged (get_or s p 0) (omega (arith, b p, h))) (over-high logged step n s (p + step) b h)
