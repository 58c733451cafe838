-- What the rows find is a breach. Assumes nothing.
use mathlib.Core.Path.{◌≡◌, refl, sym, ◌∙◌, subst}
use mathlib.Core.Bool.{Bool, true, not, ◌&&◌, ◌||◌}
use mathlib.Core.List.Memᴰ
use mathlib.Core.List.{List, [], ◌∷◌, ◌++◌, Memᴰ}
use mathlib.Core.Logic.{inl, inr, ⊎_elim}
use Prim.Native.Nat.{ℕ, zero, suc, ◌+◌, ◌<◌}
use native.Mathlib.Decide.{ℕ_discrete}
use native.Mathlib.Omega.{arith}
use borrow.Author.Tests.{eq-eqb, ne_eqb, eqb-true, ltb-true}
use lib.Dec.{eqb, leb}
use lib.ListN.{length}
use Rattle.records.specs.declared.Span.{Span}
use Rattle.records.specs.declared.Kind.{Kind}
use Rattle.records.specs.declared.Kind.TheVariants.{Dvc, Det, Dpd, Dpt, Dvp}
use Rattle.views.specs.Fields.{element_of, process_data_of, property_of, presentation_of}
use Rattle.faults.specs.Faults.{Fault}
use Rattle.faults.specs.Rows.{Row, one, many, Found}
use Rattle.pool.specs.Reading.{Entry}
use Rattle.naming.specs.Records.{start_at, id_at, kind_at}
use Rattle.naming.specs.Naming.{first_of, type_key, named, parent_of, climb, tag_of}
use Rattle.naming.proofs.First.{first-none}
use Rattle.rules.specs.Breach.{Is, Role, presentation}
use Rattle.rules.specs.Breach.{Text, device_designator, device_version, device_serial, element_designator, data_designator, property_designator, unit}
use Rattle.rules.specs.Breach.{OutOfRange, type, number, property_bit, both, trigger_bit, scale, decimals}
use Rattle.rules.specs.Breach.{Refers, to_parent, to_entry, data_presentation, property_presentation}
use Rattle.rules.specs.Breach.{Breach, device_id, other_id, same_id, second_device, unsound_text, out_of_range, names_none, wrong_kind}
use Rattle.rules.specs.Breach.{same_number, endless, no_device, no_device_element, same_ddi}
use Rattle.rules.specs.Table.{repeats, bad_own, unsound, presented_rows, element_key, entry_named, record_rows, pool_rows, rows_of, doubled}
use Rattle.rules.proofs.Truth.{both as parts, either, denied, differ}
use Rattle.rules.proofs.Names.{wrongly, named_none, wrong-names}
use Rattle.rules.proofs.Repeats.{repeats-earlier, element-key, key-element, type-key}
use Rattle.rules.proofs.Chain.{climbs-endless}
use Rattle.rules.proofs.Doubles.{doubled-earlier, tag-ddi}
use Rattle.rules.proofs.Parts.{own_of, rows_as, by_kind}
use Rattle.rules.proofs.Fields.{test-unsound, over-three, over-five, source-bits, within, test-outside, test-label}

-- every item that a row finds in record r is a breach; every row of a list does so
record Right (p : List ℕ) (es : List Entry) (r : ℕ) (w : Row) : Type 0 where
  breach : (m : ℕ) → m < w.size → w.breach m ≡ true → Breach p es r w.rule (w.first + m)

infixr 20 ◌and◌
data AllRight (p : List ℕ) (es : List Entry) (r : ℕ) : List Row → Type 0 where
  nothing : AllRight p es r []
  ◌and◌ : {w : Row} {ws : List Row} → Right p es r w → AllRight p es r ws → AllRight p es r (w ∷ ws)

one_right : {p : List ℕ} {es : List Entry} {r u k : ℕ} {b : Bool} → (b ≡ true → Breach p es r u k) → Right p es r (one u k b)
one_right {p} {es} {r} {u} {k} h =
    record { breach = λ (m : ℕ) (l : m < 1) e. let same : k ≡ k + m = omega arith in subst (Breach p es r u) same (h e) }

many-right : {p : List ℕ} {es : List Entry} {r u k n : ℕ} {t : ℕ → Bool} → ((m : ℕ) → m < n → t m ≡ true → Breach p es r u (k + m)) → Right p es r (many u k n t)
many-right h = record { breach = h }

of_row : {p : List ℕ} {es : List Entry} {r : ℕ} {w : Row} {ws : List Row} → AllRight p es r ws → Memᴰ w ws → Right p es r w
of_row nothing l = absurd (Memᴰ.not-nil l)
of_row {p} {es} {r} {w} (h and hs) l = ⊎_elim (λ e. subst (Right p es r) (sym e) h) (λ m. of_row hs m) (Memᴰ.cases_cons l)

append_right : {p : List ℕ} {es : List Entry} {r : ℕ} {a b : List Row} → AllRight p es r a → AllRight p es r b → AllRight p es r (a ++ b)
append_right nothing g = g
append_right (h and hs) g = h and append_right hs g

-- ---- the rows of record i
module _ (p : List ℕ) (es : List Entry) (i : ℕ) where
  unsound-right : {k : ℕ} {s : Span} → Text p es i k s → Right p es (suc i) (one 4 k (unsound p s))
  unsound-right {k} {s} t = one_right (λ e. unsound_text t (test-unsound p s e))

  range-right : {k : ℕ} {b : Bool} → (b ≡ true → OutOfRange p es i k) → Right p es (suc i) (one 5 k b)
  range-right h = one_right (λ e. out_of_range (h e))

  -- a reference that names none, or one of a wrong kind
  none-breach : {k x : ℕ} {r : Role} → Refers p es i k r x → eqb (named es x) 0 ≡ true → Breach p es (suc i) 6 k
  none-breach {k} {x} h e = names_none h (named_none es x (eqb-true (named es x) 0 e))

  wrong-breach : {k x : ℕ} {r : Role} → Refers p es i k r x → wrongly es r x ≡ true → Breach p es (suc i) 7 k
  wrong-breach {k} {x} {r} h e = let w = wrong-names es x r e in wrong_kind h w.1 w.2

  presented-right : (x : ℕ) → ((x ≡ 65535 → ⊥) → Refers p es i 1 presentation x) → AllRight p es (suc i) (presented_rows es x)
  presented-right x h = one_right none and one_right wrong and nothing
    where
      none : not (eqb x 65535) && eqb (named es x) 0 ≡ true → Breach p es (suc i) 6 1
      none e =
          let t = parts (not (eqb x 65535)) (eqb (named es x) 0) e in
          none-breach (h (differ x 65535 t.0)) t.1

      wrong : wrongly es presentation x ≡ true → Breach p es (suc i) 7 1
      wrong e = let w = wrong-names es x presentation e in wrong_kind (h w.1.real) w.1 w.2

  own-right : i < length es → AllRight p es (suc i) (own_of es i)
  own-right l = one_right (own (ℕ_discrete (kind_at es i) 1)) and one_right again and nothing
    where
      own : Dec (kind_at es i ≡ 1) → bad_own (kind_at es i) (id_at es i) ≡ true → Breach p es (suc i) 1 1
      own (yes k) e = device_id (record { there = l; kind = k }) (differ (id_at es i) 0 (rw (eq-eqb (kind_at es i) 1 k) at e))
      own (no k) e =
          let t : eqb (id_at es i) 0 || eqb (id_at es i) 65535 ≡ true = rw (ne_eqb (kind_at es i) 1 k) at e in
          other_id l (λ (d : Is es Dvc i). k d.kind)
          (⊎_elim (λ h. inl (eqb-true (id_at es i) 0 h)) (λ h. inr (eqb-true (id_at es i) 65535 h)) (either (eqb (id_at es i) 0) (eqb (id_at es i) 65535) t))

      again : repeats (id_at es) (id_at es i) i (length es) ≡ true → Breach p es (suc i) 2 1
      again e = let s = repeats-earlier (id_at es) (id_at es i) i (length es) l refl e in same_id l s.1 s.2

  device-right : Is es Dvc i → AllRight p es (suc i) (rows_as Dvc p es i)
  device-right h =
      one_right again
      and unsound-right (device_designator h)
      and unsound-right (device_version h)
      and unsound-right (device_serial h)
      and many-right (λ m l e. out_of_range (test-label p es i m h l e))
      and nothing
    where
      again : repeats (kind_at es) 1 i (length es) ≡ true → Breach p es (suc i) 3 1
      again e =
          let s = repeats-earlier (kind_at es) 1 i (length es) h.there h.kind e in
          second_device h s.1 (record { there = omega (arith, s.1, h.there); kind = s.2 })

  element-right : Is es Det i → AllRight p es (suc i) (rows_as Det p es i)
  element-right h =
      unsound-right (element_designator h)
      and range-right (λ e. type h (denied (leb 1 t && leb t 7) (within 1 t 7) e))
      and range-right (λ e. number h (ltb-true 4095 x e))
      and one_right (λ e. none-breach (to_parent h) e)
      and many-right (λ m l e. none-breach (to_entry h l) e)
      and one_right (λ e. wrong-breach (to_parent h) e)
      and many-right (λ m l e. wrong-breach (to_entry h l) e)
      and one_right again
      and one_right ever
      and many-right twice
      and nothing
    where
      t : ℕ
      t = (element_of p (start_at es i)).element_type

      x : ℕ
      x = (element_of p (start_at es i)).number

      tag : ℕ → ℕ
      tag m = tag_of p es (entry_named p es (start_at es i) m)

      again : repeats (element_key p es) (suc x) i (length es) ≡ true → Breach p es (suc i) 8 1
      again e =
          let s = repeats-earlier (element_key p es) (suc x) i (length es) h.there (element-key p es i h.kind) e in
          let k = key-element p es s.0 x s.2 in
          same_number h s.1 (record { there = omega (arith, s.1, h.there); kind = k.0 }) k.1

      ever : not (eqb (climb (parent_of p es) (length es) (suc i)) 0) ≡ true → Breach p es (suc i) 9 1
      ever e = endless h (climbs-endless p es i h.there (differ (climb (parent_of p es) (length es) (suc i)) 0 e))

      twice : (m : ℕ) → m < (element_of p (start_at es i)).entries → doubled tag m ≡ true → Breach p es (suc i) 12 (2 + m)
      twice m l e =
          let s = doubled-earlier tag m e in
          same_ddi h l s.2 (tag-ddi p es i s.0 s.1 s.3) (tag-ddi p es i m s.1 s.4)

  data-right : Is es Dpd i → AllRight p es (suc i) (rows_as Dpd p es i)
  data-right h =
      let x = (process_data_of p (start_at es i)).properties in
      let t = (process_data_of p (start_at es i)).triggers in
      unsound-right (data_designator h)
      and range-right (λ e. let b = over-three x (ltb-true 7 x e) in property_bit h b.1 b.2)
      and range-right (λ e. let b = source-bits x e in both h b.0 b.1)
      and range-right (λ e. let b = over-five t (ltb-true 31 t e) in trigger_bit h b.1 b.2)
      and presented-right (process_data_of p (start_at es i)).presentation (data_presentation h)

  property-right : Is es Dpt i → AllRight p es (suc i) (rows_as Dpt p es i)
  property-right h = unsound-right (property_designator h) and presented-right (property_of p (start_at es i)).presentation (property_presentation h)

  value-right : Is es Dvp i → AllRight p es (suc i) (rows_as Dvp p es i)
  value-right h =
      let x = (presentation_of p (start_at es i)).scale in
      let d = (presentation_of p (start_at es i)).decimals in
      unsound-right (unit h)
      and range-right (λ e. scale h (test-outside 0x322BCC77 x 0x4CBEBC20 e))
      and range-right (λ e. decimals h (ltb-true 7 d e))
      and nothing

  kind-right : (k : Kind) → Is es k i → AllRight p es (suc i) (rows_as k p es i)
  kind-right Dvc h = device-right h
  kind-right Det h = element-right h
  kind-right Dpd h = data-right h
  kind-right Dpt h = property-right h
  kind-right Dvp h = value-right h

  record-right : i < length es → AllRight p es (suc i) (record_rows p es i)
  record-right l =
      append_right (own-right l) (by_kind p es i (AllRight p es (suc i)) (λ k e. kind-right k (record { there = l; kind = e })) nothing)

-- ---- record 0
pool-right : (p : List ℕ) (es : List Entry) → AllRight p es 0 (pool_rows p es)
pool-right p es = one_right devices and one_right elements and nothing
  where
    devices : eqb (first_of (kind_at es) 1 (length es)) 0 ≡ true → Breach p es 0 10 1
    devices e =
        let f = eqb-true (first_of (kind_at es) 1 (length es)) 0 e in
        no_device (λ (i : ℕ) (h : Is es Dvc i). first-none (kind_at es) 1 (length es) f i h.there h.kind)

    elements : eqb (first_of (type_key p es) 1 (length es)) 0 ≡ true → Breach p es 0 11 1
    elements e =
        let f = eqb-true (first_of (type_key p es) 1 (length es)) 0 e in
        no_device_element (λ (i : ℕ) (h : Is es Det i) t. first-none (type_key p es) 1 (length es) f i h.there (type-key p es i h.kind ∙ t))

rows_right : (p : List ℕ) (es : List Entry) (r : ℕ) → r < suc (length es) → AllRight p es r (rows_of p es r)
rows_right p es zero l = pool-right p es
rows_right p es (suc i) l = record-right p es i (omega arith)

pub found-breach : (p : List ℕ) (es : List Entry) (f : Fault) → Found (rows_of p es) (suc (length es)) f → Breach p es f.number f.rule f.item
found-breach p es f h =
    let w : Right p es f.number h.row = of_row (rows_right p es f.number h.below) h.listed in
    rw (h.same_rule, h.same_item) (w.breach h.offset h.inside h.broken)
