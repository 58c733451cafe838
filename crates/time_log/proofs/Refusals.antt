-- Why a record is refused, from what its parts read as. Assumes nothing.
use mathlib.Core.Path.{◌≡◌}
use mathlib.Core.Bool.{Bool, true, false, not, cond}
use mathlib.Core.List.{List}
use Prim.Native.Nat.{ℕ, ◌≤◌, ◌<◌}
use borrow.Author.Tests.{lt-ltb, le-ltb, lt-leb}
use native.Mathlib.Omega.{arith}
use lib.Dec.{leb, ltb}
use lib.IntN.{nat_abs}
use lib.ListN.{length}
use Rattle.wire.specs.Bytes.{number_in}
use Rattle.wire.proofs.Either.{by-case}
use Rattle.time_log.specs.Layout.{place_of}
use Rattle.time_log.specs.Contents.{part_at, signed_at, fields_at, values_counted, extent_of, ordinals_at}
use Rattle.time_log.specs.Judging.{is_known_status, one_over, refusal_of_fields, record_refusal}
use Rattle.time_log.specs.Refusing.{refusal_number}
use Rattle.time_log.specs.Within.{refusal_by}
use Rattle.time_log.specs.declared.Refusal.{Refusal}
use Rattle.time_log.specs.declared.Refusal.TheVariants.{CutRecord, BadTime, BadNorth, BadEast, BadStatus, OrdinalOver, NoRoom, BadLayout, BadCounts}
use Rattle.time_log.proofs.Parts.{count_inside}
use Rattle.time_log.specs.declared.Fields.{Fields}

pub not-a-layout : (layout logged : ℕ) (s : List ℕ) → 511 < layout → 47 ≡ record_refusal layout logged s
unfolding record_refusal
not-a-layout layout logged s h = rw (lt-ltb 511 layout h)

pub by_parts : (f : Fields) (over : Bool) (x north east : ℕ) → north ≡ nat_abs f.north → east ≡ nat_abs f.east → x ≡ refusal_by f.time north east f.status over → x ≡ refusal_of_fields f over
unfolding refusal_of_fields refusal_by
by_parts f over x north east p q e = rw (p, q) at e

-- no refusal has the number 0
pub refusal_some : (r : Refusal) → refusal_number r ≡ 0 → ⊥
refusal_some CutRecord e = omega arith
refusal_some BadTime e = omega arith
refusal_some BadNorth e = omega arith
refusal_some BadEast e = omega arith
refusal_some BadStatus e = omega arith
refusal_some OrdinalOver e = omega arith
refusal_some NoRoom e = omega arith
refusal_some BadLayout e = omega arith
refusal_some BadCounts e = omega arith

-- the fields are never why 40 is given
pub not-forty : (f : Fields) (over : Bool) → refusal_of_fields f over ≡ 40 → ⊥
unfolding refusal_of_fields
not-forty f over = go (ltb 86399999 f.time) (ltb 900000000 (nat_abs f.north)) (ltb 1800000000 (nat_abs f.east)) (not (is_known_status f.status)) over
  where
    go : (a b c d e : Bool) → ◌≡◌ {A = ℕ} (cond a 41 (cond b 42 (cond c 43 (cond d 44 (cond e 45 0))))) 40 → ⊥
    go true b c d e h = omega arith
    go false true c d e h = omega arith
    go false false true d e h = omega arith
    go false false false true e h = omega arith
    go false false false false true h = omega arith
    go false false false false false h = omega arith

module _ (layout logged : ℕ) (s : List ℕ) (small : layout ≤ 511) where
  pub ends-inside : length s < extent_of layout s → 40 ≡ record_refusal layout logged s
  unfolding record_refusal
  ends-inside h =
      by-case (leb (length s) (place_of layout 9))
      (λ t. rw (le-ltb 511 layout small, t))
      (λ t. rw (le-ltb 511 layout small, t, lt-ltb (length s) (extent_of layout s) h))

  pub whole-record : extent_of layout s ≤ length s → (x : ℕ)
      → x ≡ refusal_of_fields (fields_at layout s) (one_over logged (ordinals_at layout s)) → x ≡ record_refusal layout logged s
  unfolding record_refusal
  whole-record h x e =
      let g : place_of layout 9 < length s = omega (arith, count_inside layout (values_counted layout s)) in
      rw (le-ltb 511 layout small, lt-leb (length s) (place_of layout 9) g, le-ltb (length s) (extent_of layout s) h) e

  pub by-fields : extent_of layout s ≤ length s → (x : ℕ)
      → x ≡ refusal_by (number_in 4 s 0) (nat_abs (signed_at layout s 0)) (nat_abs (signed_at layout s 1)) (part_at layout s 3) (one_over logged (ordinals_at layout s))
      → x ≡ record_refusal layout logged s
  unfolding refusal_of_fields refusal_by
  by-fields h x e = whole-record h x e
