-- Rules 4 and 5, test by test. Assumes nothing.
use mathlib.Core.Path.{◌≡◌, refl, sym, ap, ◌∙◌, subst}
use mathlib.Core.Bool.{true, not, ◌&&◌, ◌||◌}
use mathlib.Core.List.{List}
use mathlib.Core.Logic.{⊎_elim}
use Prim.Native.Nat.{ℕ, zero, suc, ◌+◌, ◌-◌, ◌/◌, ◌%◌, ◌<◌, ◌≤◌}
use native.Mathlib.Decide.{ℕ_discrete, dec_lt}
use native.Mathlib.Omega.{arith}
use borrow.Author.Tests.{eq-eqb, eqb-true, le-leb, leb-true, lt-ltb, ltb-true}
use lib.Dec.{eqb, ltb, leb}
use lib.ListN.{get_or}
use Rattle.records.specs.Layout.{layout}
use Rattle.records.specs.Places.{field_at}
use Rattle.records.specs.declared.Span.{Span}
use Rattle.records.specs.declared.Kind.TheVariants.{Dvc}
use Rattle.views.specs.Fields.{part_of, device_of}
use Rattle.text.specs.Examined.{sound_text, Sound}
use Rattle.text.proofs.Examining.{examined}
use Rattle.pool.specs.Reading.{Entry}
use Rattle.naming.specs.Records.{start_at}
use Rattle.rules.specs.Breach.{Is, Bit, OutOfRange, structure, localization, closing}
use Rattle.rules.specs.Table.{unsound, bad_label, bad_source}
use Rattle.rules.proofs.Truth.{both, to_both, either, to-left, to-right, denied, to-denied, differ, to-differ}

-- ---- rule 4
module _ (p : List ℕ) (s : Span) where
  pub test-unsound : unsound p s ≡ true → Sound (part_of p s) → ⊥
  unfolding unsound
  test-unsound e = denied (sound_text (part_of p s)) (examined (part_of p s)).1 e

  pub unsound-test : (Sound (part_of p s) → ⊥) → unsound p s ≡ true
  unfolding unsound
  unsound-test h = to-denied (sound_text (part_of p s)) (examined (part_of p s)).0 h

-- ---- rule 5: bits
some-bit : (n y : ℕ) → y ≤ n → 0 < y → (b : ℕ) × Bit b y
some-bit zero y h l = absurd (omega arith)
some-bit (suc n) y h l = go (ℕ_discrete (y % 2) 1) (some-bit n)
  where
    go : Dec (y % 2 ≡ 1) → ((z : ℕ) → z ≤ n → 0 < z → (b : ℕ) × Bit b z) → (b : ℕ) × Bit b y
    go (yes e) more = (0, e)
    go (no e) more = let s = more (y / 2) (omega arith) (omega arith) in (suc s.0, s.1)

bit-some : (b y : ℕ) → Bit b y → 0 < y
bit-some zero y e = omega arith
bit-some (suc b) y e = omega (arith, bit-some b (y / 2) e)

-- a number of more than three bits, and one of more than five
pub over-three : (x : ℕ) → 7 < x → (b : ℕ) × (2 < b) × Bit b x
over-three x h = let s = some-bit (x / 2 / 2 / 2) (x / 2 / 2 / 2) (omega arith) (omega arith) in (suc (suc (suc s.0)), omega arith, s.1)

pub three-over : (b x : ℕ) → 2 < b → Bit b x → 7 < x
three-over zero x h e = absurd (omega arith)
three-over (suc zero) x h e = absurd (omega arith)
three-over (suc (suc zero)) x h e = absurd (omega arith)
three-over (suc (suc (suc b))) x h e = omega (arith, bit-some b (x / 2 / 2 / 2) e)

pub over-five : (x : ℕ) → 31 < x → (b : ℕ) × (4 < b) × Bit b x
over-five x h =
    let s = some-bit (x / 2 / 2 / 2 / 2 / 2) (x / 2 / 2 / 2 / 2 / 2) (omega arith) (omega arith) in
    (suc (suc (suc (suc (suc s.0)))), omega arith, s.1)

pub five-over : (b x : ℕ) → 4 < b → Bit b x → 31 < x
five-over zero x h e = absurd (omega arith)
five-over (suc zero) x h e = absurd (omega arith)
five-over (suc (suc zero)) x h e = absurd (omega arith)
five-over (suc (suc (suc zero))) x h e = absurd (omega arith)
five-over (suc (suc (suc (suc zero)))) x h e = absurd (omega arith)
five-over (suc (suc (suc (suc (suc b))))) x h e = omega (arith, bit-some b (x / 2 / 2 / 2 / 2 / 2) e)

pub source-bits : (x : ℕ) → bad_source x ≡ true → Bit 1 x × Bit 2 x
source-bits x e = let s : x / 2 % 4 ≡ 3 = eqb-true (x / 2 % 4) 3 e in (omega arith, omega arith)

pub bits-source : (x : ℕ) → Bit 1 x → Bit 2 x → bad_source x ≡ true
bits-source x a b = eq-eqb (x / 2 % 4) 3 (omega arith)

-- ---- rule 5: ranges
pub within : (a x b : ℕ) → (a ≤ x) × (x ≤ b) → leb a x && leb x b ≡ true
within a x b h = to_both (le-leb a x h.0) (le-leb x b h.1)

pub in-range : (a x b : ℕ) → leb a x && leb x b ≡ true → (a ≤ x) × (x ≤ b)
in-range a x b e = let t = both (leb a x) (leb x b) e in (leb-true a x t.0, leb-true x b t.1)

-- below a range or above it
pub test-outside : (a x b : ℕ) → ltb x a || ltb b x ≡ true → (a ≤ x) × (x ≤ b) → ⊥
test-outside a x b e h =
    ⊎_elim (λ t. omega (arith, ltb-true x a t)) (λ t. omega (arith, ltb-true b x t)) (either (ltb x a) (ltb b x) e)

pub outside-test : (a x b : ℕ) → ((a ≤ x) × (x ≤ b) → ⊥) → ltb x a || ltb b x ≡ true
outside-test a x b h = go (dec_lt x a) (dec_lt b x)
  where
    go : Dec (x < a) → Dec (b < x) → ltb x a || ltb b x ≡ true
    go (yes l) d = to-left (ltb b x) (lt-ltb x a l)
    go (no l) (yes g) = to-right (ltb x a) (lt-ltb b x g)
    go (no l) (no g) = absurd (h (omega arith, omega arith))

-- ---- rule 5: the labels of a device

-- the localization label stands behind the structure label
labels : (p : List ℕ) (at : ℕ) → (device_of p at).localization.from ≡ (device_of p at).structure.from + 7
unfolding device_of field_at layout
labels p at = refl

module _ (p : List ℕ) (at m : ℕ) where
  -- all but the last of the fourteen bytes, and the last
  test-filled : m < 13 → bad_label p at m ≡ true → get_or p (at + m) 0 ≡ 255
  test-filled l e = eqb-true (get_or p (at + m) 0) 255 (rw (lt-ltb m 13 l) at e)

  filled-test : m < 13 → get_or p (at + m) 0 ≡ 255 → bad_label p at m ≡ true
  filled-test l e = rw (lt-ltb m 13 l) (eq-eqb (get_or p (at + m) 0) 255 e)

module _ (p : List ℕ) (es : List Entry) (i : ℕ) where
  pub test-label : (m : ℕ) → Is es Dvc i → m < 14 → bad_label p (device_of p (start_at es i)).structure.from m ≡ true → OutOfRange p es i (1 + m)
  test-label m h l e = go (dec_lt m 7) (dec_lt m 13)
    where
      at : ℕ
      at = (device_of p (start_at es i)).structure.from

      from : ℕ
      from = (device_of p (start_at es i)).localization.from

      later : (at + m ≡ from + (m - 7)) → (m - 7 < 6) → get_or p (at + m) 0 ≡ 255 → 8 + (m - 7) ≡ 1 + m → OutOfRange p es i (1 + m)
      later place b f same = subst (OutOfRange p es i) same (localization h b (ap (λ (x : ℕ). get_or p x 0) (sym place) ∙ f))

      last : m ≡ 13 → OutOfRange p es i (1 + m)
      last q =
          let place : from + 6 ≡ at + 13 = omega (arith, labels p (start_at es i)) in
          let t : not (eqb (get_or p (at + 13) 0) 255) ≡ true = rw q at e in
          rw q (closing h (λ (f : get_or p (from + 6) 0 ≡ 255). differ (get_or p (at + 13) 0) 255 t (ap (λ (x : ℕ). get_or p x 0) (sym place) ∙ f)))

      go : Dec (m < 7) → Dec (m < 13) → OutOfRange p es i (1 + m)
      go (yes a) b = structure h a (test-filled p at m (omega arith) e)
      go (no a) (yes b) = later (omega (arith, labels p (start_at es i))) (omega arith) (test-filled p at m b e) (omega arith)
      go (no a) (no b) = last (omega arith)

  pub structure-test : (j : ℕ) → j < 7 → get_or p ((device_of p (start_at es i)).structure.from + j) 0 ≡ 255 → bad_label p (device_of p (start_at es i)).structure.from j ≡ true
  structure-test j l e = filled-test p (device_of p (start_at es i)).structure.from j (omega arith) e

  pub localization-test : (j : ℕ) → j < 6 → get_or p ((device_of p (start_at es i)).localization.from + j) 0 ≡ 255
      → bad_label p (device_of p (start_at es i)).structure.from (7 + j) ≡ true
  localization-test j l e =
      let at = (device_of p (start_at es i)).structure.from in
      let from = (device_of p (start_at es i)).localization.from in
      let place : at + (7 + j) ≡ from + j = omega (arith, labels p (start_at es i)) in
      filled-test p at (7 + j) (omega arith) (ap (λ (x : ℕ). get_or p x 0) place ∙ e)

  pub closing-test : (get_or p ((device_of p (start_at es i)).localization.from + 6) 0 ≡ 255 → ⊥) → bad_label p (device_of p (start_at es i)).structure.from 13 ≡ true
  closing-test h =
      let at = (device_of p (start_at es i)).structure.from in
      let from = (device_of p (start_at es i)).localization.from in
      let place : from + 6 ≡ at + 13 = omega (arith, labels p (start_at es i)) in
      to-differ (get_or p (at + 13) 0) 255 (λ (e : get_or p (at + 13) 0 ≡ 255). h (ap (λ (x : ℕ). get_or p x 0) place ∙ e))
