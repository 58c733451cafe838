-- What reading a record answers, by the refusal. Assumes nothing.
use mathlib.Core.Path.{◌≡◌, refl}
use mathlib.Core.Bool.{Bool, true, false, ◌||◌, true≢false}
use mathlib.Core.List.{List}
use Prim.Native.Nat.{ℕ, ◌≤◌}
use borrow.Author.Tests.{ne_eqb, ltb-false}
use lib.Dec.{ltb}
use lib.IntN.{ℤ}
use lib.ListN.{length}
use lib.Seq.{sets}
use Rattle.time_log.specs.Contents.{values_counted, ordinals_at, values_at}
use Rattle.time_log.specs.Judging.{record_refusal}
use Rattle.time_log.specs.Refusing.{refusal_number}
use Rattle.time_log.specs.declared.Refusal.{Refusal}
use Rattle.time_log.proofs.Refusals.{refusal_some}
use Rattle.std.specs.Prelude.{Err}
use Rattle.log_reading.specs.Reading.{read_refusal, refused_by, record_of, whole_record, read_of, ordinals_after, values_after}

pub neither : (a b n : ℕ) → (ltb a n || ltb b n) ≡ false → (n ≤ a) × (n ≤ b)
neither a b n e = let h = go (ltb a n) (ltb b n) e in (ltb-false a n h.0, ltb-false b n h.1)
  where
    go : (x y : Bool) → (x || y) ≡ false → (x ≡ false) × (y ≡ false)
    go true y e = absurd (true≢false e)
    go false y e = (refl, e)

module _ (layout logged : ℕ) (s : List ℕ) (os : List ℕ) (vs : List ℤ) where
  pub judged : (x : ℕ) → x ≡ record_refusal layout logged s → (x ≡ 0 → ⊥) → read_refusal layout logged s (length os) (length vs) ≡ x
  unfolding read_refusal
  judged x e n = rw (← e, ne_eqb x 0 n)

  pub lists-short : record_refusal layout logged s ≡ 0 → (ltb (length os) (values_counted layout s) || ltb (length vs) (values_counted layout s)) ≡ true
      → read_refusal layout logged s (length os) (length vs) ≡ 46
  unfolding read_refusal
  lists-short e t = rw (e, t)

  pub lists-long : record_refusal layout logged s ≡ 0 → (ltb (length os) (values_counted layout s) || ltb (length vs) (values_counted layout s)) ≡ false
      → read_refusal layout logged s (length os) (length vs) ≡ 0
  unfolding read_refusal
  lists-long e t = rw (e, t)

  pub after-refusal : (x : ℕ) → read_refusal layout logged s (length os) (length vs) ≡ x → (x ≡ 0 → ⊥)
      → (refused_by x ≡ read_of layout logged s (length os) (length vs)) × (os ≡ ordinals_after layout logged s os vs) × (vs ≡ values_after layout logged s os vs)
  unfolding read_of ordinals_after values_after
  after-refusal x e n = rw (e, ne_eqb x 0 n) (refl, refl, refl)

  -- a refusal that the record gives
  pub refused-as : (r : Refusal) → refusal_number r ≡ record_refusal layout logged s
      → (record_of (Err r) ≡ read_of layout logged s (length os) (length vs)) × (os ≡ ordinals_after layout logged s os vs) × (vs ≡ values_after layout logged s os vs)
  refused-as r e = after-refusal (refusal_number r) (judged (refusal_number r) e (refusal_some r)) (refusal_some r)

  pub after-success : read_refusal layout logged s (length os) (length vs) ≡ 0
      → (whole_record layout s ≡ read_of layout logged s (length os) (length vs)) × (sets os 0 (ordinals_at layout s) ≡ ordinals_after layout logged s os vs) × (sets vs 0 (values_at layout s) ≡ values_after layout logged s os vs)
  unfolding read_of ordinals_after values_after
  after-success e = rw e (refl, refl, refl)
