-- The walk over a log, turn by turn. Assumes nothing.
use mathlib.Core.Path.{◌≡◌, refl}
use mathlib.Core.List.{List}
use Prim.Native.Nat.{ℕ, zero, suc, ◌+◌, ◌-◌, ◌<◌}
use native.Mathlib.Omega.{arith}
use borrow.Author.Tests.{eq-eqb, ne_eqb}
use lib.ListN.{length, drop}
use Rattle.time_log.specs.Contents.{extent_of}
use Rattle.time_log.specs.Judging.{record_refusal}
use Rattle.log_reading.specs.Logs.{whole_log, bad_log, walk}

module _ (layout logged : ℕ) where
  pub walk_end : (turns at n : ℕ) (s : List ℕ) → length s ≡ 0 → whole_log n ≡ walk layout logged turns at n s
  unfolding walk
  walk_end zero at n s e = refl
  walk_end (suc turns) at n s e = rw (eq-eqb (length s) 0 e)

  pub walk-on : (turns at n : ℕ) (s : List ℕ) → 0 < turns → 0 < length s → record_refusal layout logged s ≡ 0
      → walk layout logged (turns - 1) (at + extent_of layout s) (n + 1) (drop (extent_of layout s) s) ≡ walk layout logged turns at n s
  unfolding walk
  walk-on zero at n s h l e = absurd (omega (arith, h))
  walk-on (suc turns) at n s h l e =
      let f : suc turns - 1 ≡ turns = omega arith in
      rw (ne_eqb (length s) 0 (λ z. absurd (omega (arith, l, z))), e, f)

  pub walk-stop : (turns at n : ℕ) (s : List ℕ) (x : ℕ) → 0 < turns → 0 < length s → x ≡ record_refusal layout logged s → (x ≡ 0 → ⊥) → bad_log x at ≡ walk layout logged turns at n s
  unfolding walk
  walk-stop zero at n s x h l e d = absurd (omega (arith, h))
  walk-stop (suc turns) at n s x h l e d =
      rw (ne_eqb (length s) 0 (λ z. absurd (omega (arith, l, z))), ← e, ne_eqb x 0 d)
