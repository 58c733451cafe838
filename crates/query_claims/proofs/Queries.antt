-- Texts and labels of an accepted pool are the parts that its records consist of. Assumes nothing.
use mathlib.Core.Path.{◌≡◌, refl, sym, ap, subst, ◌∙◌}
use mathlib.Core.Bool.{Bool, true, false, cond, true≢false}
use mathlib.Core.Logic.{◌↔◌, ⊎_elim}
use mathlib.Core.List.Memᴰ
use mathlib.Core.List.{List, [], ◌∷◌, ◌++◌, append_assoc, append-nil, Memᴰ}
use Prim.Native.Nat.{ℕ, zero, suc, ◌+◌, ◌-◌, ◌≤◌, ◌<◌}
use native.Mathlib.Omega.{arith}
use native.Mathlib.Decide.{ℕ_discrete}
use borrow.Author.Tests.{ne_eqb}
use lib.Dec.{eqb}
use lib.ListN.{length, replicate, length-append}
use Rattle.wire.specs.Parts.{joined}
use Rattle.wire.specs.Bytes.{le_of}
use Rattle.records.specs.Layout.{layout, kind_code}
use Rattle.records.specs.Places.{field_at}
use Rattle.records.specs.declared.Kind.{Kind}
use Rattle.records.specs.declared.Kind.TheVariants.{Dvc, Det, Dpd, Dpt, Dvp}
use Rattle.records.specs.declared.Span.{Span}
use Rattle.views.specs.Fields.{part_of, device_of, element_of, process_data_of, property_of, presentation_of}
use Rattle.division.specs.Division.{Division}
use Rattle.division.specs.Written.{Written, dvc, det, dpd, dpt, dvp}
use Rattle.text.specs.Examined.{sound_text, Sound}
use Rattle.text.proofs.Examining.{examined}
use Rattle.pool.specs.Reading.{Entry, scan_of, entries_in}
use Rattle.faults.specs.Faults.{fault}
use Rattle.naming.specs.Records.{start_at, id_at, kind_at}
use Rattle.naming.specs.Naming.{first_of}
use Rattle.naming.proofs.First.{first-none, first-le, to_none, to-first}
use Rattle.rules.specs.Breach.{Is, Text, device_designator, device_version, device_serial, element_designator, data_designator, property_designator, unit, unsound_text}
use Rattle.rules.specs.Table.{breaches_in, breaches_of}
use Rattle.rules.proofs.Listing.{breaches-listed}
use Rattle.checker.specs.Checking.{count_of}
use Rattle.claims.specs.Parts.{Shows}
use Rattle.claims.proofs.Sorting.{listed-length}
use Rattle.claims.proofs.Parts.{fields-are-parts}
use Rattle.claims.proofs.Verdict.{reading}
use Rattle.queries.specs.Queries as Q
use Rattle.queries.specs.Queries.{acceptance, carrier, text_of_record, text_number, text_span, text_of, padded, if_accepted, labels_number, device_in, start_of, structure_label, localization_label, extended_text, extended_label, extended_count}
use Rattle.queries.proofs.Accepted.{accepted-read, accepted-clean, some-member}
use Rattle.query_claims.specs.Texts.{id_in, asked_text, before_text, texts_in, labels_within, Has, None, AcceptedQueries}
use Rattle.query_claims.proofs.Placed.{id-in, kind-written, written-whole, Placed, placed, split_at, split-of}

-- ---- one record

-- the text that a query gives of a record where its fields are shown
span-text : {k : Kind} {r : List ℕ} (p : List ℕ) (at : ℕ) (w : Written k r) → Shows p at w → part_of p (Q.asked_text p (kind_code k) at) ≡ asked_text w
unfolding Q.asked_text
span-text p at (dvc id d v name s st lo x l1 l2 l3 l4 l5 l6 l7 l8) h = h.1
span-text p at (det id type d number parent count list l1 l2 l3 l4 l5 l6 l7) h = h.2
span-text p at (dpd id ddi properties triggers d presentation l1 l2 l3 l4 l5 l6) h = h.4
span-text p at (dpt id ddi value d presentation l1 l2 l3 l4 l5) h = h.3
span-text p at (dvp id offset scale decimals u l1 l2 l3 l4 l5) h = h.4

-- where it begins
span-from : {k : Kind} {r : List ℕ} (p : List ℕ) (at : ℕ) (w : Written k r) → (Q.asked_text p (kind_code k) at).from ≡ at + before_text w
unfolding Q.asked_text device_of element_of process_data_of property_of presentation_of field_at layout
span-from p at (dvc id d v name s st lo x l1 l2 l3 l4 l5 l6 l7 l8) = omega arith
span-from p at (det id type d number parent count list l1 l2 l3 l4 l5 l6 l7) = omega arith
span-from p at (dpd id ddi properties triggers d presentation l1 l2 l3 l4 l5 l6) = omega arith
span-from p at (dpt id ddi value d presentation l1 l2 l3 l4 l5) = omega arith
span-from p at (dvp id offset scale decimals u l1 l2 l3 l4 l5) = omega arith

before-within : {k : Kind} {r : List ℕ} (w : Written k r) → before_text w ≤ length r
before-within (dvc id d v name s st lo x l1 l2 l3 l4 l5 l6 l7 l8) = simp length-append (omega arith)
before-within (det id type d number parent count list l1 l2 l3 l4 l5 l6 l7) = simp length-append (omega arith)
before-within (dpd id ddi properties triggers d presentation l1 l2 l3 l4 l5 l6) = simp length-append (omega arith)
before-within (dpt id ddi value d presentation l1 l2 l3 l4 l5) = simp length-append (omega arith)
before-within (dvp id offset scale decimals u l1 l2 l3 l4 l5) = simp length-append (omega arith)

some : (n : ℕ) → eqb (suc n) 0 ≡ false
some n = ne_eqb (suc n) 0 (λ (z : suc n ≡ 0). omega arith)

only : {t a : List ℕ} → Memᴰ t (a ∷ []) → t ≡ a
only m = ⊎_elim (λ e. e) (λ n. absurd (Memᴰ.not-nil n)) (Memᴰ.cases_cons m)

device-kind : (k : Kind) → kind_code k ≡ 1 → k ≡ Dvc
device-kind Dvc e = refl
device-kind Det e = absurd (let z : ◌≡◌ {A = ℕ} 2 1 = e in omega arith)
device-kind Dpd e = absurd (let z : ◌≡◌ {A = ℕ} 3 1 = e in omega arith)
device-kind Dpt e = absurd (let z : ◌≡◌ {A = ℕ} 4 1 = e in omega arith)
device-kind Dvp e = absurd (let z : ◌≡◌ {A = ℕ} 5 1 = e in omega arith)

module _ (p : List ℕ) (room : ℕ) (ok : acceptance p room ≡ 0) where
  es : List Entry
  es = entries_in (scan_of p)

  -- a record of a division, by its number
  at : (front : List (List ℕ)) (r : List ℕ) (back : List (List ℕ)) → Division p (front ++ (r ∷ back)) → Placed p (entries_in (scan_of p)) (length front) (joined front) r (joined back)
  at front r back d = placed p front r back d (entries_in (scan_of p)) ((reading p room).entries (front ++ (r ∷ back)) d)

  shows : {k : Kind} {before r after : List ℕ} {i : ℕ} (w : Written k r) → Placed p (entries_in (scan_of p)) i before r after → Shows p (length before) w
  shows {k} {before} {r} {after} w a = subst (λ (q : List ℕ). Shows q (length before) w) (sym a.pool) (fields-are-parts before r after k w)

  has-id : {k : Kind} {before r after : List ℕ} {i : ℕ} (w : Written k r) → Placed p (entries_in (scan_of p)) i before r after → id_at (entries_in (scan_of p)) i ≡ le_of (id_in w)
  has-id w a = a.id ∙ ap le_of (id-in w)

  is-kind : {k : Kind} {before r after : List ℕ} {i : ℕ} (w : Written k r) → Placed p (entries_in (scan_of p)) i before r after → kind_at (entries_in (scan_of p)) i ≡ kind_code k
  is-kind w a = a.kind ∙ ap kind_code (kind-written a.whole w)

  -- record j of those before another
  earlier : (front : List (List ℕ)) (r : List ℕ) (back : List (List ℕ)) → Division p (front ++ (r ∷ back)) → (j : ℕ) → j < length front
      → (s : List ℕ) × Memᴰ s front × ((before : List ℕ) × (after : List ℕ) × Placed p (entries_in (scan_of p)) j before s after)
  earlier front r back d j h =
      let s = split_at front j h in
      let e : front ++ (r ∷ back) ≡ s.front ++ (s.here ∷ (s.back ++ (r ∷ back))) = ap (λ (l : List (List ℕ)). l ++ (r ∷ back)) s.same ∙ append_assoc s.front (s.here ∷ s.back) (r ∷ back) in
      let a = at s.front s.here (s.back ++ (r ∷ back)) (subst (Division p) e d) in
      (s.here, s.member, (_, _, subst (λ (n : ℕ). Placed p (entries_in (scan_of p)) n (joined s.front) s.here (joined (s.back ++ (r ∷ back)))) s.count a))

  -- ---- texts

  found : (front : List (List ℕ)) (r : List ℕ) (back : List (List ℕ)) → Division p (front ++ (r ∷ back)) → (k : Kind) (w : Written k r) → None (Has (le_of (id_in w))) front
      → carrier (entries_in (scan_of p)) (le_of (id_in w)) ≡ suc (length front)
  found front r back d k w none =
      let a = at front r back d in
      to-first (id_at (entries_in (scan_of p))) (le_of (id_in w)) (length (entries_in (scan_of p))) (length front) a.there (has-id w a)
      (λ j h e. (
      let b = earlier front r back d j h in
      let v = written-whole b.2.2.whole in
      none b.0 b.1 (_, v, sym (has-id v b.2.2) ∙ e)))

  asked-text : (front : List (List ℕ)) (r : List ℕ) (back : List (List ℕ)) → Division p (front ++ (r ∷ back)) → (k : Kind) (w : Written k r) → None (Has (le_of (id_in w))) front
      → (text_number p room (le_of (id_in w)) ≡ 0) × (text_of p room (le_of (id_in w)) ≡ asked_text w)
      × ((text_span p room (le_of (id_in w))).from ≡ length (joined front) + before_text w)
  unfolding text_number text_of text_span
  asked-text front r back d k w none =
      let a = at front r back d in
      let f = found front r back d k w none in (
        rw (ok, f, some (length front)),
        rw (ok, f, is-kind w a, a.start) (span-text p (length (joined front)) w (shows w a)),
        rw (ok, f, is-kind w a, a.start) (span-from p (length (joined front)) w),
      )

  asked-none : (rs : List (List ℕ)) → Division p rs → (id : ℕ) → carrier (entries_in (scan_of p)) id ≡ 0 → None (Has id) rs
  asked-none rs d id e r m (k, w, q) =
      let s = split-of rs r m in
      let a = at s.0 r s.1 (subst (Division p) s.2 d) in
      first-none (id_at (entries_in (scan_of p))) id (length (entries_in (scan_of p))) e (length s.0) a.there (has-id w a ∙ q)

  none-asked : (rs : List (List ℕ)) → Division p rs → (id : ℕ) → None (Has id) rs → carrier (entries_in (scan_of p)) id ≡ 0
  none-asked rs d id none =
      to_none (id_at (entries_in (scan_of p))) id (length (entries_in (scan_of p)))
      (λ j h e. (
      let l : length (entries_in (scan_of p)) ≡ length rs = ap length ((reading p room).entries rs d) ∙ listed-length rs d.whole 0 in
      let s = split_at rs j (omega (arith, h, l)) in
      let a = at s.front s.here s.back (subst (Division p) s.same d) in
      let v = written-whole a.whole in
      none s.here s.member (_, v, sym (has-id v a) ∙ ap (id_at (entries_in (scan_of p))) s.count ∙ e)))

  number-28 : (c : ℕ) → ◌≡◌ {A = ℕ} (cond (eqb c 0) 28 0) 28 → c ≡ 0
  number-28 zero e = refl
  number-28 (suc c) e = absurd (let z : ◌≡◌ {A = ℕ} 0 28 = rw (some c) at e in omega arith)

  asked-missing : (rs : List (List ℕ)) → Division p rs → (id : ℕ) → (text_number p room id ≡ 28) ↔ None (Has id) rs
  unfolding text_number
  asked-missing rs d id = rw ok ((λ e. asked-none rs d id (number-28 (carrier (entries_in (scan_of p)) id) e)), (λ none. rw (none-asked rs d id none)))

  -- a text begins within the pool
  placed-within : {before r after : List ℕ} {i : ℕ} → Placed p (entries_in (scan_of p)) i before r after
      → (Q.asked_text p (kind_at (entries_in (scan_of p)) i) (start_at (entries_in (scan_of p)) i)).from ≤ length p
  placed-within {before} {r} {after} {i} a =
      let w = written-whole a.whole in
      let from : (Q.asked_text p (kind_at (entries_in (scan_of p)) i) (start_at (entries_in (scan_of p)) i)).from ≡ length before + before_text w = rw (is-kind w a, a.start) (span-from p (length before) w) in
      let long : length p ≡ length before + (length r + length after) = ap length a.pool ∙ simp length-append in
      omega (arith, from, long, before-within w)

  begins-within : (id : ℕ) → (text_span p room id).from ≤ length p
  unfolding text_span
  begins-within id = rw ok (go (carrier (entries_in (scan_of p)) id) (first-le (id_at (entries_in (scan_of p))) id (length (entries_in (scan_of p)))))
    where
      go : (n : ℕ) → n ≤ length (entries_in (scan_of p)) → (text_of_record p (entries_in (scan_of p)) n).from ≤ length p
      go zero h = omega arith
      go (suc i) h =
          let d = (((reading p room).read (count_of p room)).0 (sym (accepted-read p room ok))).1.0 in
          let l : length (entries_in (scan_of p)) ≡ length d.parts = ap length ((reading p room).entries d.parts d.division) ∙ listed-length d.parts d.division.whole 0 in
          let s = split_at d.parts i (omega (arith, h, l)) in
          let a = at s.front s.here s.back (subst (Division p) s.same d.division) in
          placed-within (subst (λ (n : ℕ). Placed p (entries_in (scan_of p)) n (joined s.front) s.here (joined s.back)) s.count a)

  -- ---- every text is sound

  sound-part : {i item : ℕ} {s : Span} → Text p (entries_in (scan_of p)) i item s → Sound (part_of p s)
  unfolding breaches_of
  sound-part {i} {item} {s} t = decide (sound_text (part_of p s)) refl
    where
      decide : (b : Bool) → sound_text (part_of p s) ≡ b → Sound (part_of p s)
      decide true e = (examined (part_of p s)).0 e
      decide false e =
          absurd
          (some-member (fault (suc i) 4 item) (breaches_in p (entries_in (scan_of p)))
          (((breaches-listed p (entries_in (scan_of p))).exact (fault (suc i) 4 item)).1 (unsound_text t (λ q. true≢false (sym ((examined (part_of p s)).1 q) ∙ e))))
          (accepted-clean p room ok))

  text-sound : {i item n : ℕ} {t u : List ℕ} {s : Span} → start_at (entries_in (scan_of p)) i ≡ n → Text p (entries_in (scan_of p)) i item s → part_of p s ≡ t → u ≡ t → Sound u
  text-sound e x q m = subst Sound (q ∙ sym m) (sound-part x)

  all_sound : (front : List (List ℕ)) (r : List ℕ) (back : List (List ℕ)) → Division p (front ++ (r ∷ back)) → (k : Kind) (w : Written k r) (t : List ℕ) → Memᴰ t (texts_in w) → Sound t
  all_sound front r back d k (dvc id de v name s st lo x l1 l2 l3 l4 l5 l6 l7 l8) t m =
      let w = dvc id de v name s st lo x l1 l2 l3 l4 l5 l6 l7 l8 in
      let a = at front r back d in
      let is : Is (entries_in (scan_of p)) Dvc (length front) = record { there = a.there; kind = is-kind w a } in
      let h = shows w a in
      ⊎_elim (λ (e : t ≡ de). text-sound a.start (device_designator is) (rw a.start h.1) e)
      (λ n. ⊎_elim (λ (e : t ≡ v). text-sound a.start (device_version is) (rw a.start h.2) e)
      (λ o. text-sound a.start (device_serial is) (rw a.start h.4) (only o)) (Memᴰ.cases_cons n)) (Memᴰ.cases_cons m)
  all_sound front r back d k (det id type de number parent count list l1 l2 l3 l4 l5 l6 l7) t m =
      let w = det id type de number parent count list l1 l2 l3 l4 l5 l6 l7 in
      let a = at front r back d in
      text-sound a.start (element_designator (record { there = a.there; kind = is-kind w a })) (rw a.start (shows w a).2) (only m)
  all_sound front r back d k (dpd id ddi properties triggers de presentation l1 l2 l3 l4 l5 l6) t m =
      let w = dpd id ddi properties triggers de presentation l1 l2 l3 l4 l5 l6 in
      let a = at front r back d in
      text-sound a.start (data_designator (record { there = a.there; kind = is-kind w a })) (rw a.start (shows w a).4) (only m)
  all_sound front r back d k (dpt id ddi value de presentation l1 l2 l3 l4 l5) t m =
      let w = dpt id ddi value de presentation l1 l2 l3 l4 l5 in
      let a = at front r back d in
      text-sound a.start (property_designator (record { there = a.there; kind = is-kind w a })) (rw a.start (shows w a).3) (only m)
  all_sound front r back d k (dvp id offset scale decimals u l1 l2 l3 l4 l5) t m =
      let w = dvp id offset scale decimals u l1 l2 l3 l4 l5 in
      let a = at front r back d in
      text-sound a.start (unit (record { there = a.there; kind = is-kind w a })) (rw a.start (shows w a).4) (only m)

  -- ---- labels

  first-device : (front : List (List ℕ)) (r : List ℕ) (back : List (List ℕ)) → Division p (front ++ (r ∷ back)) → (w : Written Dvc r) → None (Written Dvc) front
      → first_of (kind_at (entries_in (scan_of p))) 1 (length (entries_in (scan_of p))) ≡ suc (length front)
  first-device front r back d w none =
      let a = at front r back d in
      to-first (kind_at (entries_in (scan_of p))) 1 (length (entries_in (scan_of p))) (length front) a.there (is-kind w a)
      (λ j h e. (
      let b = earlier front r back d j h in
      let v = b.2.2.whole in
      none b.0 b.1 (subst (λ (k : Kind). Written k b.0) (device-kind v.kind (sym b.2.2.kind ∙ e)) (written-whole v))))

  full : (w : ℕ) (t : List ℕ) → length t ≡ w → padded w t ≡ t
  full w t l = let z : w - length t ≡ 0 = omega (arith, l) in rw z (append-nil t)

  asked-labels : (front : List (List ℕ)) (r : List ℕ) (back : List (List ℕ)) → Division p (front ++ (r ∷ back)) → (w : Written Dvc r) → None (Written Dvc) front
      → (labels_number p room ≡ 0) × (structure_label p room ≡ (labels_within w).structure) × (localization_label p room ≡ (labels_within w).localization)
      × (extended_label p room ≡ (labels_within w).extended ++ replicate (32 - length (labels_within w).extended) 0) × (extended_count p room ≡ length (labels_within w).extended)
  unfolding structure_label localization_label extended_label extended_count extended_text device_in
  asked-labels front r back d (dvc id de v name s st lo x l1 l2 l3 l4 l5 l6 l7 l8) none =
      let w = dvc id de v name s st lo x l1 l2 l3 l4 l5 l6 l7 l8 in
      let a = at front r back d in
      let f = first-device front r back d w none in
      let h = shows w a in
      (ok, rw (ok, f, a.start, h.5) (full 7 st l6), rw (ok, f, a.start, h.6) (full 7 lo l7), rw (ok, f, a.start, h.7), rw (ok, f, a.start, h.7))

pub accepted-queries : AcceptedQueries
accepted-queries p room ok =
    record {
      text = asked-text p room ok;
      missing = asked-missing p room ok;
      sound = all_sound p room ok;
      labels = asked-labels p room ok;
    }

-- a text begins within the pool, whatever the answer is
pub text-begins : (p : List ℕ) (room id : ℕ) → (text_span p room id).from ≤ length p
unfolding text_span
text-begins p room id = go (ℕ_discrete (acceptance p room) 0)
  where
    go : Dec (acceptance p room ≡ 0) → (text_span p room id).from ≤ length p
    go (yes e) = begins-within p room e id
    go (no n) = rw (ne_eqb (acceptance p room) 0 n) (omega arith)
