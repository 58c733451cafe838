-- 40 is given exactly if more bytes would make a whole record. Assumes nothing.
use mathlib.Core.Path.{◌≡◌, refl, sym, ap, ◌∙◌}
use mathlib.Core.List.{List, [], ◌∷◌, ◌++◌, append_assoc}
use Prim.Native.Nat.{ℕ, zero, suc, ◌+◌, ◌*◌, ◌-◌, ◌≤◌, ◌<◌}
use native.Mathlib.Omega.{arith}
use borrow.Author.Tests.{leb-true, leb-false, ltb-true, ltb-false}
use lib.Dec.{leb, ltb}
use lib.ListN.{length, get_or, take, drop, length-append, length-drop, take-append-drop, get_or-append}
use lib.Seq.{length-take-le, get_or_at, split_at}
use Rattle.wire.proofs.Either.{by-case}
use Rattle.time_log.specs.Layout.{part_width, place_of, record_length}
use Rattle.time_log.specs.Contents.{fields_at, values_counted, extent_of, ordinals_at}
use Rattle.time_log.specs.Judging.{one_over, record_refusal}
use Rattle.time_log.proofs.Parts.{count_inside}
use Rattle.time_log.proofs.Refusals.{not-forty, ends-inside, whole-record}
use Rattle.log_reading.specs.Whole.{field_bytes, Whole, Cut, Starts, CutIsForty}

-- ---- bytes that can be added
abbrev zeros : ℕ → List ℕ
zeros zero = []
zeros (suc n) = 0 ∷ zeros n

zeros-long : (n : ℕ) → length (zeros n) ≡ n
zeros-long zero = refl
zeros-long (suc n) = ap suc (zeros-long n)

zeros-octets : (n i : ℕ) → get_or (zeros n) i 0 < 256
zeros-octets zero i = omega arith
zeros-octets (suc n) zero = omega arith
zeros-octets (suc n) (suc i) = zeros-octets n i

zeros-end : (n : ℕ) → zeros (suc n) ≡ zeros n ++ (0 ∷ [])
zeros-end zero = refl
zeros-end (suc n) = ap (λ (l : List ℕ). 0 ∷ l) (zeros-end n)

-- ---- the answer
fields-end : (layout : ℕ) → place_of layout 9 ≡ field_bytes layout
unfolding place_of part_width
fields-end layout = refl

module _ (layout logged : ℕ) (s : List ℕ) (small : layout ≤ 511) where
  -- the bytes end before the count byte, end after it, or have all of the record
  early-or-later : {P : Type 0} → (length s ≤ place_of layout 9 → P) → (place_of layout 9 < length s → length s < extent_of layout s → P)
      → (place_of layout 9 < length s → extent_of layout s ≤ length s → P) → P
  early-or-later f g h =
      by-case (leb (length s) (place_of layout 9))
      (λ e. f (leb-true (length s) (place_of layout 9) e))
      (λ e.
      let l = leb-false (length s) (place_of layout 9) e in
      by-case (ltb (length s) (extent_of layout s)) (λ t. g l (ltb-true (length s) (extent_of layout s) t)) (λ t. h l (ltb-false (length s) (extent_of layout s) t)))

  not-whole : extent_of layout s ≤ length s → record_refusal layout logged s ≡ 40 → ⊥
  not-whole w e =
      not-forty (fields_at layout s) (one_over logged (ordinals_at layout s)) (whole-record layout logged s small w _ refl ∙ e)

  -- ---- what 40 says
  cut-early : length s ≤ place_of layout 9 → Cut layout s
  cut-early h =
      let k = place_of layout 9 - length s in
      record {
        more = zeros (suc k);
        some = omega arith;
        octets = zeros-octets (suc k);
        whole =
            record {
              fields = s ++ zeros k;
              count = 0;
              pairs = [];
              same = ap (λ (l : List ℕ). s ++ l) (zeros-end k) ∙ sym (append_assoc s (zeros k) (0 ∷ []));
              fields_long = omega (arith, length-append s (zeros k), zeros-long k, fields-end layout);
              pairs_long = refl;
            };
      }

  cut_later : place_of layout 9 < length s → length s < extent_of layout s → Cut layout s
  unfolding record_length
  cut_later l h =
      let p = place_of layout 9 in
      let k = extent_of layout s - length s in
      record {
        more = zeros k;
        some = omega (arith, zeros-long k);
        octets = zeros-octets k;
        whole =
            record {
              fields = take p s;
              count = values_counted layout s;
              pairs = drop (suc p) s ++ zeros k;
              same = ap (λ (u : List ℕ). u ++ zeros k) (split_at s p 0 l) ∙ append_assoc (take p s) (values_counted layout s ∷ drop (suc p) s) (zeros k);
              fields_long = length-take-le p s (omega arith) ∙ fields-end layout;
              pairs_long = omega (arith, length-append (drop (suc p) s) (zeros k), length-drop (suc p) s, zeros-long k);
            };
      }

  to-cut : record_refusal layout logged s ≡ 40 → Cut layout s
  to-cut e = early-or-later cut-early cut_later (λ l w. absurd (not-whole w e))

  to-starts : (record_refusal layout logged s ≡ 40 → ⊥) → Starts layout s
  unfolding record_length
  to-starts n =
      early-or-later
      (λ h. absurd (n (sym (ends-inside layout logged s small (omega (arith, h, count_inside layout (values_counted layout s)))))))
      (λ l h. absurd (n (sym (ends-inside layout logged s small h))))
      (λ l h.
      let p = place_of layout 9 in
      let m = 5 * values_counted layout s in
      let d = drop (suc p) s in
      record {
        first = take p s ++ (values_counted layout s ∷ take m d);
        rest = drop m d;
        same =
            split_at s p 0 l
            ∙ ap (λ (u : List ℕ). take p s ++ (values_counted layout s ∷ u)) (sym (take-append-drop m d))
            ∙ sym (append_assoc (take p s) (values_counted layout s ∷ take m d) (drop m d));
        whole =
            record {
              fields = take p s;
              count = values_counted layout s;
              pairs = take m d;
              same = refl;
              fields_long = length-take-le p s (omega arith) ∙ fields-end layout;
              pairs_long = length-take-le m d (omega (arith, length-drop (suc p) s));
            };
      })

-- ---- what a whole record says
module _ (layout : ℕ) (r : List ℕ) (w : Whole layout r) where
  counted : values_counted layout r ≡ w.count
  counted =
      ap (values_counted layout) w.same ∙ get_or_at w.fields w.count w.pairs 0 (place_of layout 9) (w.fields_long ∙ sym (fields-end layout))

  long : length r ≡ place_of layout 9 + 1 + 5 * w.count
  long = ap length w.same ∙ omega (arith, length-append w.fields (w.count ∷ w.pairs), w.fields_long, w.pairs_long, fields-end layout)

module _ (layout logged : ℕ) (s : List ℕ) (small : layout ≤ 511) where
  from_cut : Cut layout s → record_refusal layout logged s ≡ 40
  unfolding record_length
  from_cut c =
      let n = long layout (s ++ c.more) c.whole in
      let a = length-append s c.more in
      sym
      (early-or-later layout logged s small (λ h. ends-inside layout logged s small (omega (arith, h, count_inside layout (values_counted layout s))))
      (λ l h. ends-inside layout logged s small h)
      (λ l h.
      let k : values_counted layout s ≡ c.whole.count = sym (get_or-append s c.more 0 (place_of layout 9) l) ∙ counted layout (s ++ c.more) c.whole in
      absurd (omega (arith, c.some))))

  from-starts : Starts layout s → record_refusal layout logged s ≡ 40 → ⊥
  unfolding record_length
  from-starts t =
      let n = long layout t.first t.whole in
      let a : length s ≡ length t.first + length t.rest = ap length t.same ∙ length-append t.first t.rest in
      let k : values_counted layout s ≡ t.whole.count = ap (values_counted layout) t.same ∙ get_or-append t.first t.rest 0 (place_of layout 9) (omega arith) ∙ counted layout t.first t.whole in
      not-whole layout logged s small (omega arith)

pub cut-is-forty : CutIsForty
cut-is-forty =
    record {
      cut = λ layout logged s small. (to-cut layout logged s small, from_cut layout logged s small);
      whole = λ layout logged s small. (to-starts layout logged s small, from-starts layout logged s small);
    }
