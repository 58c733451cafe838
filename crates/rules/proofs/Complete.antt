-- Every breach is found by a row. Assumes nothing.
use mathlib.Core.Path.{◌≡◌, refl, ap, ◌∙◌, subst}
use mathlib.Core.Bool.{Bool, true, false, ◌&&◌}
use mathlib.Core.List.Memᴰ
use mathlib.Core.List.{List, [], ◌∷◌, ◌++◌}
use mathlib.Core.Logic.{◌⊎◌, ⊎_elim}
use Prim.Native.Nat.{ℕ, suc, ◌+◌, ◌<◌}
use native.Mathlib.Omega.{arith}
use borrow.Author.Tests.{eq-eqb, ne_eqb, lt-ltb}
use lib.Dec.{eqb, leb}
use lib.ListN.{length}
use Rattle.records.specs.declared.Span.{Span}
use Rattle.records.specs.declared.Kind.{Kind}
use Rattle.records.specs.declared.Kind.TheVariants.{Dvc, Det, Dpd, Dpt, Dvp}
use Rattle.views.specs.Fields.{device_of, element_of, process_data_of, property_of, presentation_of}
use Rattle.faults.specs.Faults.{fault}
use Rattle.faults.specs.Rows.{Row, one, many, Found}
use Rattle.pool.specs.Reading.{Entry}
use Rattle.naming.specs.Records.{start_at, id_at, kind_at}
use Rattle.naming.specs.Naming.{first_of, type_key, named, parent_of, climb, tag_of}
use Rattle.naming.proofs.First.{to_none}
use Rattle.rules.specs.Breach.{Is, Role}
use Rattle.rules.specs.Breach.{Text, device_designator, device_version, device_serial, element_designator, data_designator, property_designator, unit}
use Rattle.rules.specs.Breach.{OutOfRange, structure, localization, closing, type, number, property_bit, both, trigger_bit, scale, decimals}
use Rattle.rules.specs.Breach.{Refers, to_parent, to_entry, data_presentation, property_presentation}
use Rattle.rules.specs.Breach.{Endless, EntryDdi}
use Rattle.rules.specs.Breach.{Breach, device_id, other_id, same_id, second_device, unsound_text, out_of_range, names_none, wrong_kind}
use Rattle.rules.specs.Breach.{same_number, endless, no_device, no_device_element, same_ddi}
use Rattle.rules.specs.Table.{bad_label, unsound, data_rows, property_rows, presented_rows, element_key, entry_named, kind_rows, record_rows, pool_rows, rows_of}
use Rattle.rules.proofs.Truth.{to_both, to-left, to-right, to-denied, to-differ}
use Rattle.rules.proofs.Names.{wrongly, none_named, names-wrong}
use Rattle.rules.proofs.Repeats.{earlier-repeats, element-key, key-type}
use Rattle.rules.proofs.Chain.{endless-climbs}
use Rattle.rules.proofs.Doubles.{earlier-doubled, ddi-tag}
use Rattle.rules.proofs.Parts.{own_of, rows_as, as-kind}
use Rattle.rules.proofs.Fields.{unsound-test, three-over, five-over, bits-source, in-range, outside-test, structure-test, localization-test, closing-test}

-- a row of a list finds an item of a rule
data Hit : List Row → ℕ → ℕ → Type 0 where
  at_one : {u k : ℕ} {b : Bool} {ws : List Row} → b ≡ true → Hit (one u k b ∷ ws) u k
  at-many : {u k n : ℕ} {t : ℕ → Bool} {ws : List Row} (m : ℕ) → m < n → t m ≡ true → Hit (many u k n t ∷ ws) u (k + m)
  next : {w : Row} {ws : List Row} {u k : ℕ} → Hit ws u k → Hit (w ∷ ws) u k

hit-left : {a : List Row} (b : List Row) {u k : ℕ} → Hit a u k → Hit (a ++ b) u k
hit-left b (at_one e) = at_one e
hit-left b (at-many m l e) = at-many m l e
hit-left b (next h) = next (hit-left b h)

hit-right : (a : List Row) {b : List Row} {u k : ℕ} → Hit b u k → Hit (a ++ b) u k
hit-right [] h = h
hit-right (w ∷ a) h = next (hit-right a h)

-- behind the rows of a device element's fields, and behind those of its references
references : {a b c : Row} {ws : List Row} {u k : ℕ} → Hit ws u k → Hit (a ∷ b ∷ c ∷ ws) u k
references h = next (next (next h))

lists : {a b c d e f g : Row} {ws : List Row} {u k : ℕ} → Hit ws u k → Hit (a ∷ b ∷ c ∷ d ∷ e ∷ f ∷ g ∷ ws) u k
lists h = references (next (next (next (next h))))

-- so the list gives the fault, in whatever record it is the list of
in_list : {ws : List Row} {u k : ℕ} (n r : ℕ) → r < n → Hit ws u k → Found (λ (s : ℕ). ws) n (fault r u k)
in_list n r l (at_one {u} {k} {b} e) =
    record {
      row = one u k b;
      offset = 0;
      below = l;
      listed = Memᴰ.head refl;
      inside = omega arith;
      same_rule = refl;
      same_item = omega arith;
      broken = e;
    }
in_list n r l (at-many {u} {k} {n = c} {t} m h e) =
    record {
      row = many u k c t;
      offset = m;
      below = l;
      listed = Memᴰ.head refl;
      inside = h;
      same_rule = refl;
      same_item = refl;
      broken = e;
    }
in_list n r l (next h) =
    let f = in_list n r l h in
    record {
      row = f.row;
      offset = f.offset;
      below = l;
      listed = Memᴰ.tail f.listed;
      inside = f.inside;
      same_rule = f.same_rule;
      same_item = f.same_item;
      broken = f.broken;
    }

hit-found : (rows : ℕ → List Row) (n r : ℕ) {u k : ℕ} → r < n → Hit (rows r) u k → Found rows n (fault r u k)
hit-found rows n r l h =
    let f = in_list n r l h in
    record {
      row = f.row;
      offset = f.offset;
      below = l;
      listed = f.listed;
      inside = f.inside;
      same_rule = f.same_rule;
      same_item = f.same_item;
      broken = f.broken;
    }

-- ---- the rows of record i

-- the record is there, and a row of it finds the item
record Hits (p : List ℕ) (es : List Entry) (i u k : ℕ) : Type 0 where
  there : i < length es
  hit : Hit (record_rows p es i) u k

module _ (p : List ℕ) (es : List Entry) (i : ℕ) where
  of-own : {u k : ℕ} → i < length es → Hit (own_of es i) u k → Hits p es i u k
  of-own l h = record { there = l; hit = hit-left (kind_rows p es i (kind_at es i)) h }

  of-kind : (n : Kind) {u k : ℕ} → Is es n i → Hit (rows_as n p es i) u k → Hits p es i u k
  of-kind n {u} {k} h g = record { there = h.there; hit = hit-right (own_of es i) (rw (as-kind p es i n h) g) }

  of-data : {u k : ℕ} → Is es Dpd i → Hit (presented_rows es (process_data_of p (start_at es i)).presentation) u k → Hits p es i u k
  of-data h g = of-kind Dpd h (hit-right (data_rows p (process_data_of p (start_at es i))) g)

  of-property : {u k : ℕ} → Is es Dpt i → Hit (presented_rows es (property_of p (start_at es i)).presentation) u k → Hits p es i u k
  of-property h g = of-kind Dpt h (hit-right (property_rows p (property_of p (start_at es i))) g)

  -- ---- rules 1, 2 and 3
  device-hit : Is es Dvc i → (id_at es i ≡ 0 → ⊥) → Hits p es i 1 1
  device-hit h n = of-own h.there (at_one (rw (eq-eqb (kind_at es i) 1 h.kind) (to-differ (id_at es i) 0 n)))

  other-hit : i < length es → (Is es Dvc i → ⊥) → (id_at es i ≡ 0) ⊎ (id_at es i ≡ 65535) → Hits p es i 1 1
  other-hit l n h =
      let k : eqb (kind_at es i) 1 ≡ false = ne_eqb (kind_at es i) 1 (λ (k : kind_at es i ≡ 1). n (record { there = l; kind = k })) in
      of-own l
      (at_one
      (rw k
      (⊎_elim
      (λ e. to-left (eqb (id_at es i) 65535) (eq-eqb (id_at es i) 0 e))
      (λ e. to-right (eqb (id_at es i) 0) (eq-eqb (id_at es i) 65535 e))
      h)))

  same-hit : {j : ℕ} → i < length es → j < i → id_at es j ≡ id_at es i → Hits p es i 2 1
  same-hit {j} l b e = of-own l (next (at_one (earlier-repeats (id_at es) (id_at es i) i (length es) j b e)))

  second-hit : {j : ℕ} → Is es Dvc i → j < i → Is es Dvc j → Hits p es i 3 1
  second-hit {j} h l g = of-kind Dvc h (at_one (earlier-repeats (kind_at es) 1 i (length es) j l g.kind))

  -- ---- rule 4
  text-hit : {k : ℕ} {s : Span} → Text p es i k s → unsound p s ≡ true → Hits p es i 4 k
  text-hit (device_designator h) e = of-kind Dvc h (next (at_one e))
  text-hit (device_version h) e = of-kind Dvc h (next (next (at_one e)))
  text-hit (device_serial h) e = of-kind Dvc h (next (next (next (at_one e))))
  text-hit (element_designator h) e = of-kind Det h (at_one e)
  text-hit (data_designator h) e = of-kind Dpd h (at_one e)
  text-hit (property_designator h) e = of-kind Dpt h (at_one e)
  text-hit (unit h) e = of-kind Dvp h (at_one e)

  -- ---- rule 5
  label-hit : (m : ℕ) → Is es Dvc i → m < 14 → bad_label p (device_of p (start_at es i)).structure.from m ≡ true → Hits p es i 5 (1 + m)
  label-hit m h l e = of-kind Dvc h (next (next (next (next (at-many m l e)))))

  range-hit : {k : ℕ} → OutOfRange p es i k → Hits p es i 5 k
  range-hit (structure {j} h l e) = label-hit j h (omega arith) (structure-test p es i j l e)
  range-hit (localization {j} h l e) =
      let same : 1 + (7 + j) ≡ 8 + j = omega arith in
      subst (Hits p es i 5) same (label-hit (7 + j) h (omega arith) (localization-test p es i j l e))
  range-hit (closing h n) = label-hit 13 h (omega arith) (closing-test p es i n)
  range-hit (type h n) =
      let x = (element_of p (start_at es i)).element_type in
      of-kind Det h (next (at_one (to-denied (leb 1 x && leb x 7) (in-range 1 x 7) n)))
  range-hit (number h l) = of-kind Det h (next (next (at_one (lt-ltb 4095 (element_of p (start_at es i)).number l))))
  range-hit (property_bit {b} h l e) =
      let x = (process_data_of p (start_at es i)).properties in
      of-kind Dpd h (next (at_one (lt-ltb 7 x (three-over b x l e))))
  range-hit (both h a b) = of-kind Dpd h (next (next (at_one (bits-source (process_data_of p (start_at es i)).properties a b))))
  range-hit (trigger_bit {b} h l e) =
      let x = (process_data_of p (start_at es i)).triggers in
      of-kind Dpd h (next (next (next (at_one (lt-ltb 31 x (five-over b x l e))))))
  range-hit (scale h n) = of-kind Dvp h (next (at_one (outside-test 0x322BCC77 (presentation_of p (start_at es i)).scale 0x4CBEBC20 n)))
  range-hit (decimals h l) = of-kind Dvp h (next (next (at_one (lt-ltb 7 (presentation_of p (start_at es i)).decimals l))))

  -- ---- rules 6 and 7
  none-hit : {k x : ℕ} {r : Role} → Refers p es i k r x → eqb (named es x) 0 ≡ true → Hits p es i 6 k
  none-hit (to_parent h) e = of-kind Det h (references (at_one e))
  none-hit (to_entry {j} h l) e = of-kind Det h (references (next (at-many j l e)))
  none-hit (data_presentation h n) e = of-data h (at_one (to_both (to-differ (process_data_of p (start_at es i)).presentation 65535 n) e))
  none-hit (property_presentation h n) e = of-property h (at_one (to_both (to-differ (property_of p (start_at es i)).presentation 65535 n) e))

  wrong-hit : {k x : ℕ} {r : Role} → Refers p es i k r x → wrongly es r x ≡ true → Hits p es i 7 k
  wrong-hit (to_parent h) e = of-kind Det h (references (next (next (at_one e))))
  wrong-hit (to_entry {j} h l) e = of-kind Det h (references (next (next (next (at-many j l e)))))
  wrong-hit (data_presentation h n) e = of-data h (next (at_one e))
  wrong-hit (property_presentation h n) e = of-property h (next (at_one e))

  -- ---- rules 8, 9 and 12
  number-hit : {j : ℕ} → Is es Det i → j < i → Is es Det j → (element_of p (start_at es j)).number ≡ (element_of p (start_at es i)).number → Hits p es i 8 1
  number-hit {j} h l g e =
      let x = (element_of p (start_at es i)).number in
      of-kind Det h (lists (at_one (earlier-repeats (element_key p es) (suc x) i (length es) j l (element-key p es j g.kind ∙ ap suc e))))

  endless-hit : Is es Det i → Endless p es i → Hits p es i 9 1
  endless-hit h e = of-kind Det h (lists (next (at_one (to-differ (climb (parent_of p es) (length es) (suc i)) 0 (endless-climbs p es i e)))))

  ddi-hit : {j k ddi : ℕ} → Is es Det i → k < (element_of p (start_at es i)).entries → j < k → EntryDdi p es i j ddi → EntryDdi p es i k ddi → Hits p es i 12 (2 + k)
  ddi-hit {j} {k} {ddi} h b l c d =
      let tag : ℕ → ℕ = λ (m : ℕ). tag_of p es (entry_named p es (start_at es i) m) in
      of-kind Det h (lists (next (next (at-many k b (earlier-doubled tag k j ddi l (ddi-tag p es i j c) (ddi-tag p es i k d))))))

-- ---- record 0: rules 10 and 11
module _ (p : List ℕ) (es : List Entry) where
  devices-hit : ((i : ℕ) → Is es Dvc i → ⊥) → Hit (pool_rows p es) 10 1
  devices-hit n =
      at_one
      (eq-eqb (first_of (kind_at es) 1 (length es)) 0
      (to_none (kind_at es) 1 (length es) (λ (j : ℕ) (l : j < length es) (e : kind_at es j ≡ 1). n j (record { there = l; kind = e }))))

  elements-hit : ((i : ℕ) → Is es Det i → (element_of p (start_at es i)).element_type ≡ 1 → ⊥) → Hit (pool_rows p es) 11 1
  elements-hit n = next (at_one (eq-eqb (first_of (type_key p es) 1 (length es)) 0 (to_none (type_key p es) 1 (length es) none)))
    where
      none : (j : ℕ) → j < length es → type_key p es j ≡ 1 → ⊥
      none j l e = let k = key-type p es j e in n j (record { there = l; kind = k.0 }) k.1

  of-pool : {u k : ℕ} → Hit (pool_rows p es) u k → Found (rows_of p es) (suc (length es)) (fault 0 u k)
  of-pool h = hit-found (rows_of p es) (suc (length es)) 0 (omega arith) h

  of-record : {i u k : ℕ} → Hits p es i u k → Found (rows_of p es) (suc (length es)) (fault (suc i) u k)
  of-record {i} h = hit-found (rows_of p es) (suc (length es)) (suc i) (omega (arith, h.there)) h.hit

pub breach-found : {p : List ℕ} {es : List Entry} {r u k : ℕ} → Breach p es r u k → Found (rows_of p es) (suc (length es)) (fault r u k)
breach-found {p} {es} (device_id {i} h n) = of-record p es (device-hit p es i h n)
breach-found {p} {es} (other_id {i} l n h) = of-record p es (other-hit p es i l n h)
breach-found {p} {es} (same_id {i} l b e) = of-record p es (same-hit p es i l b e)
breach-found {p} {es} (second_device {i} h l g) = of-record p es (second-hit p es i h l g)
breach-found {p} {es} (unsound_text {i} {item} {s} t n) = of-record p es (text-hit p es i t (unsound-test p s n))
breach-found {p} {es} (out_of_range {i} h) = of-record p es (range-hit p es i h)
breach-found {p} {es} (names_none {i} {item} {x} h n) = of-record p es (none-hit p es i h (eq-eqb (named es x) 0 (none_named es x n)))
breach-found {p} {es} (wrong_kind {i} {item} {x} {j} {r} h n f) = of-record p es (wrong-hit p es i h (names-wrong es x r n f))
breach-found {p} {es} (same_number {i} h l g e) = of-record p es (number-hit p es i h l g e)
breach-found {p} {es} (endless {i} h e) = of-record p es (endless-hit p es i h e)
breach-found {p} {es} (no_device n) = of-pool p es (devices-hit p es n)
breach-found {p} {es} (no_device_element n) = of-pool p es (elements-hit p es n)
breach-found {p} {es} (same_ddi {i} h b l c d) = of-record p es (ddi-hit p es i h b l c d)
