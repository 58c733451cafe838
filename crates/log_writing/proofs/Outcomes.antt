-- What writing a record answers, by the refusal. Assumes nothing.
use mathlib.Core.Path.{◌≡◌, refl}
use mathlib.Core.Bool.{Bool, true, false, ◌||◌, true≢false}
use mathlib.Core.List.{List}
use Prim.Native.Nat.{ℕ, ◌≤◌, ◌<◌}
use borrow.Author.Tests.{ne_eqb, lt-ltb, le-ltb, ltb-false}
use lib.Dec.{ltb}
use lib.IntN.{ℤ}
use lib.ListN.{length, take}
use lib.Seq.{sets}
use Rattle.time_log.specs.Layout.{record_length}
use Rattle.time_log.specs.Judging.{one_over, refusal_of_fields}
use Rattle.log_writing.specs.Writing.{kept_fields, record_bytes, write_refusal, written_of, written_as, bytes_after}
use Rattle.std.specs.Prelude.{Err}
use Rattle.time_log.specs.Refusing.{refusal_number}
use Rattle.time_log.specs.declared.Fields.{Fields}
use Rattle.time_log.specs.declared.Refusal.{Refusal}
use Rattle.time_log.proofs.Refusals.{refusal_some}

pub none-of-three : (n a b : ℕ) → (ltb 255 n || (ltb a n || ltb b n)) ≡ false → (n ≤ 255) × (n ≤ a) × (n ≤ b)
none-of-three n a b e =
    let h = go (ltb 255 n) (ltb a n) (ltb b n) e in (ltb-false 255 n h.0, ltb-false a n h.1, ltb-false b n h.2)
  where
    go : (x y z : Bool) → (x || (y || z)) ≡ false → (x ≡ false) × (y ≡ false) × (z ≡ false)
    go true y z e = absurd (true≢false e)
    go false true z e = absurd (true≢false e)
    go false false z e = (refl, refl, e)

module _ (to : List ℕ) (layout : ℕ) (f : Fields) (logged : ℕ) (os : List ℕ) (vs : List ℤ) (n : ℕ) where
  abbrev Short : Bool
  Short = ltb 255 n || (ltb (length os) n || ltb (length vs) n)

  abbrev Judged : ℕ
  Judged = refusal_of_fields (kept_fields layout f) (one_over logged (take n os))

  pub bad-layout : 511 < layout → write_refusal layout f logged os vs n (length to) ≡ 47
  unfolding write_refusal
  bad-layout h = rw (lt-ltb 511 layout h)

  pub lists-too-short : layout ≤ 511 → Short ≡ true → write_refusal layout f logged os vs n (length to) ≡ 48
  unfolding write_refusal
  lists-too-short h t = rw (le-ltb 511 layout h, t)

  pub bad-fields : layout ≤ 511 → Short ≡ false → (x : ℕ) → Judged ≡ x → (x ≡ 0 → ⊥) → write_refusal layout f logged os vs n (length to) ≡ x
  unfolding write_refusal
  bad-fields h t x e d = rw (le-ltb 511 layout h, t, e, ne_eqb x 0 d)

  pub no_room : layout ≤ 511 → Short ≡ false → Judged ≡ 0 → length to < record_length layout n → write_refusal layout f logged os vs n (length to) ≡ 46
  unfolding write_refusal
  no_room h t e r = rw (le-ltb 511 layout h, t, e, lt-ltb (length to) (record_length layout n) r)

  pub writable : layout ≤ 511 → Short ≡ false → Judged ≡ 0 → record_length layout n ≤ length to → write_refusal layout f logged os vs n (length to) ≡ 0
  unfolding write_refusal
  writable h t e r = rw (le-ltb 511 layout h, t, e, le-ltb (length to) (record_length layout n) r)

  pub not_written : (x : ℕ) → write_refusal layout f logged os vs n (length to) ≡ x → (x ≡ 0 → ⊥)
      → (record { number = x; length = 0 } ≡ written_as (write_refusal layout f logged os vs n (length to)) (record_length layout n)) × (to ≡ bytes_after to layout f logged os vs n)
  unfolding bytes_after
  not_written x e d = rw (e, ne_eqb x 0 d) (refl, refl)

  -- a refusal that is an answer
  pub refused-as : (r : Refusal) → write_refusal layout f logged os vs n (length to) ≡ refusal_number r
      → (written_of (Err r) ≡ written_as (write_refusal layout f logged os vs n (length to)) (record_length layout n)) × (to ≡ bytes_after to layout f logged os vs n)
  refused-as r e = not_written (refusal_number r) e (refusal_some r)

  pub written : write_refusal layout f logged os vs n (length to) ≡ 0
      → (record { number = 0; length = record_length layout n } ≡ written_as (write_refusal layout f logged os vs n (length to)) (record_length layout n)) × (sets to 0 (record_bytes layout (kept_fields layout f) n os vs) ≡ bytes_after to layout f logged os vs n)
  unfolding bytes_after
  written e = rw e (refl, refl)
