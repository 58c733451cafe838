-- The error byte is the first whose cause applies. Assumes nothing.
use mathlib.Core.Path.{◌≡◌, refl, sym, ap, ◌∙◌, subst}
use mathlib.Core.Bool.{Bool, true, false, cond, true≢false}
use mathlib.Core.List.{List, [], ◌∷◌}
use mathlib.Core.Logic.{◌↔◌, ◌⊎◌, inl, inr}
use Prim.Native.Nat.{ℕ, zero, suc, ◌<◌, ◌≤◌}
use native.Mathlib.Omega.{arith}
use borrow.Author.Tests.{ne_eqb, lt-ltb, le-ltb}
use lib.Dec.{eqb}
use lib.IntN.{ℤ}
use lib.ListN.{length}
use Rattle.records.specs.declared.Kind.TheVariants.{Det, Dpd}
use Rattle.views.specs.Fields.{element_of, entry_of, process_data_of}
use Rattle.pool.specs.Reading.{Entry, scan_of, entries_in}
use Rattle.naming.specs.Records.{start_at, kind_at}
use Rattle.naming.specs.Naming.{first_of, element_key, named, tag_of}
use Rattle.naming.proofs.First.{first-none, first_some}
use Rattle.rules.specs.Breach.{Names, Bit, EntryDdi}
use Rattle.rules.proofs.Names.{names-named, test-is, is-test}
use Rattle.rules.proofs.Doubles.{ddi-tag, tag-ddi}
use Rattle.queries.specs.Queries.{acceptance}
use Rattle.messages.specs.Layout.{is_value_carrier}
use Rattle.judging.specs.Judging.{element_for, entry_for, named_by, object_for, properties_in, triggers_in, misses_setting, misses_trigger, misses_interval, error_of_object, error_of, judge_number, judge_error}
use Rattle.judging.specs.One.{NamesOne}
use Rattle.judging.specs.Causes.{Carries, Numbered, OfDdi, InList, Object, Settable, Triggered, Cause, no_value, no_element, no_object, not_settable, no_trigger, negative_interval, FirstMatch, none, here, after, ErrorByte, ErrorIsFirstCause}
use Rattle.judging.proofs.Tested.{carries_test, test-carries, lacks-setting, setting-lacks, lacks-trigger, trigger-lacks, lacks-interval, interval-lacks}
use Rattle.judging.proofs.Erring as Erring
use Rattle.judging.proofs.Unique.{accepted-one}

-- ---- the first match: there is at most one, and a test for each finds it

unique : {A : ℕ → Type 0} {l : List ℕ} {e f : ℕ} → FirstMatch A l e → FirstMatch A l f → e ≡ f
unique none none = refl
unique (here a) (here b) = refl
unique (here a) (after n m) = absurd (n a)
unique (after n m) (here a) = absurd (n a)
unique (after n m) (after k r) = unique m r

test : {A : ℕ → Type 0} {l : List ℕ} {e x : ℕ} (t : Bool) → (t ≡ true → A e) → (A e → t ≡ true) → FirstMatch A l x → FirstMatch A (e ∷ l) (cond t e x)
test true found told rest = here (found refl)
test false found told rest = after (λ a. true≢false (sym (told a))) rest

-- ---- flags that only process data has

unset : (b : ℕ) → Bit b 0 → ⊥
unset zero h = omega arith
unset (suc b) h = unset b h

flagged : (b x : ℕ) (t : Bool) → Bit b (cond t x 0) → (t ≡ true) × Bit b x
flagged b x true h = (refl, h)
flagged b x false h = absurd (unset b h)

-- the flags of record j, as the definition has them
abbrev properties_here : List ℕ → List Entry → ℕ → ℕ
properties_here p es j = properties_in p (kind_at es j) (start_at es j)

abbrev triggers_here : List ℕ → List Entry → ℕ → ℕ
triggers_here p es j = triggers_in p (kind_at es j) (start_at es j)

module _ (p : List ℕ) (es : List Entry) (j : ℕ) where
  settable-bit : Settable p es j → Bit 1 (properties_here p es j)
  settable-bit s = rw (is-test es j Dpd s.is) s.bit

  bit-settable : j < length es → Bit 1 (properties_here p es j) → Settable p es j
  bit-settable l h =
      let f = flagged 1 (process_data_of p (start_at es j)).properties (eqb (kind_at es j) 3) h in
      record { is = test-is es Dpd j l f.0; bit = f.1 }

  triggered-bit : {b : ℕ} → Triggered p es j b → Bit b (triggers_here p es j)
  triggered-bit s = rw (is-test es j Dpd s.is) s.bit

  bit-triggered : (b : ℕ) → j < length es → Bit b (triggers_here p es j) → Triggered p es j b
  bit-triggered b l h =
      let f = flagged b (process_data_of p (start_at es j)).triggers (eqb (kind_at es j) 3) h in
      record { is = test-is es Dpd j l f.0; bit = f.1 }

-- ---- the element: a record's number from 1, or 0 if there is none

abbrev FoundElement : List ℕ → List Entry → ℕ → ℕ → Type 0
FoundElement p es element r = ((r ≡ 0) × ((i : ℕ) → Numbered p es element i → ⊥)) ⊎ ((i : ℕ) × (r ≡ suc i) × Numbered p es element i)

module _ (p : List ℕ) (es : List Entry) (element : ℕ) where
  numbered-key : {i : ℕ} → Numbered p es element i → element_key p es i ≡ suc element
  numbered-key {i} n = rw (is-test es i Det n.is) (ap suc n.number)

  -- what is no device element has 0 for its key
  key-numbered : (i : ℕ) → i < length es → element_key p es i ≡ suc element → Numbered p es element i
  key-numbered i l k = go (eqb (kind_at es i) 2) refl k
    where
      go : (t : Bool) → eqb (kind_at es i) 2 ≡ t → cond t (suc (element_of p (start_at es i)).number) 0 ≡ suc element → Numbered p es element i
      go true e q = record { is = test-is es Det i l e; number = omega (arith, q) }
      go false e q = absurd (omega (arith, q))

  found-element : FoundElement p es element (element_for p es element)
  unfolding element_for
  found-element = go (first_of (element_key p es) (suc element) (length es)) refl
    where
      go : (r : ℕ) → first_of (element_key p es) (suc element) (length es) ≡ r → FoundElement p es element r
      go zero e = inl (refl, λ (i : ℕ) (n : Numbered p es element i). first-none (element_key p es) (suc element) (length es) e i n.is.there (numbered-key n))
      go (suc i) e = let s = first_some (element_key p es) (suc element) (length es) i e in inr (i, refl, key-numbered i s.0 s.1)

-- ---- the object, in the list of an element, likewise

abbrev FoundObject : List ℕ → List Entry → ℕ → ℕ → ℕ → Type 0
FoundObject p es i ddi r = ((r ≡ 0) × ((j : ℕ) → InList p es i ddi j → ⊥)) ⊎ ((j : ℕ) × (r ≡ suc j) × InList p es i ddi j)

module _ (p : List ℕ) (es : List Entry) (i : ℕ) where
  of_entry : (m ddi : ℕ) → m < (element_of p (start_at es i)).entries → EntryDdi p es i m ddi
      → (j : ℕ) × (named es (entry_of p (start_at es i) m) ≡ suc j) × InList p es i ddi j
  of_entry m ddi l (EntryDdi.data_ddi {k} n h) =
      (k, names-named es (entry_of p (start_at es i) m) n, record { entry = m; there = l; names = n; is = OfDdi.data_ddi h })
  of_entry m ddi l (EntryDdi.property_ddi {k} n h) =
      (k, names-named es (entry_of p (start_at es i) m) n, record { entry = m; there = l; names = n; is = OfDdi.property_ddi h })

  entry-of : (m : ℕ) {j ddi : ℕ} → Names es (entry_of p (start_at es i) m) j → OfDdi p es j ddi → EntryDdi p es i m ddi
  entry-of m n (OfDdi.data_ddi h) = EntryDdi.data_ddi n h
  entry-of m n (OfDdi.property_ddi h) = EntryDdi.property_ddi n h

  in-list-tag : {ddi j : ℕ} (l : InList p es i ddi j) → tag_of p es (named es (entry_of p (start_at es i) l.entry)) ≡ suc ddi
  in-list-tag l = ddi-tag p es i l.entry (entry-of l.entry l.names l.is)

  found-object : (ddi : ℕ) → FoundObject p es i ddi (object_for p es (start_at es i) ddi)
  unfolding entry_for
  found-object ddi = go (first_of tag (suc ddi) (element_of p (start_at es i)).entries) refl
    where
      tag : ℕ → ℕ
      tag m = tag_of p es (named es (entry_of p (start_at es i) m))

      go : (r : ℕ) → first_of tag (suc ddi) (element_of p (start_at es i)).entries ≡ r → FoundObject p es i ddi (named_by p es (start_at es i) r)
      go zero e =
          inl (refl, λ (j : ℕ) (l : InList p es i ddi j). first-none tag (suc ddi) (element_of p (start_at es i)).entries e l.entry l.there (in-list-tag l))
      go (suc m) e =
          let s = first_some tag (suc ddi) (element_of p (start_at es i)).entries m e in
          inr (of_entry m ddi s.0 (tag-ddi p es i m ddi s.1))

-- ---- over a pool that names one element and one entry

module _ (p : List ℕ) (es : List Entry) (one : NamesOne p es) where
  same-element : {element i k : ℕ} → Numbered p es element i → Numbered p es element k → i ≡ k
  same-element {element} {i} {k} a b =
      one.element i k (record { there = a.is.there; kind = a.is.kind }) (record { there = b.is.there; kind = b.is.kind }) (a.number ∙ sym b.number)

  same-in-list : {element i ddi j k : ℕ} → Numbered p es element i → InList p es i ddi j → InList p es i ddi k → j ≡ k
  same-in-list {element} {i} {ddi} {j} {k} n a b =
      let name : ℕ → ℕ = λ (m : ℕ). named es (entry_of p (start_at es i) m) in
      let e : a.entry ≡ b.entry =
      one.entry i a.entry b.entry ddi (record { there = n.is.there; kind = n.is.kind })
      (record { there = a.there; names = in-list-tag p es i a })
      (record { there = b.there; names = in-list-tag p es i b }) in
      let f : name a.entry ≡ suc j = names-named es (entry_of p (start_at es i) a.entry) a.names in
      let g : name b.entry ≡ suc k = names-named es (entry_of p (start_at es i) b.entry) b.names in
      let h : suc j ≡ suc k = sym f ∙ ap name e ∙ g in
      omega arith

  same_object : {element ddi j k : ℕ} → Object p es element ddi j → Object p es element ddi k → j ≡ k
  same_object a b = same-in-list b.numbered (rw (same-element a.numbered b.numbered) at a.listed) b.listed

  module _ (command element ddi : ℕ) (value : ℤ) where
    -- the causes that an element and an object leave
    module _ (j : ℕ) (o : Object p es element ddi j) where
      there : j < length es
      there = o.listed.names.there

      setting : Cause p es command element ddi value 0x10 → misses_setting (properties_here p es j) command ≡ true
      setting (not_settable s q n) =
          setting-lacks (properties_here p es j) s (λ (h : Bit 1 (properties_here p es j)). n (subst (Settable p es) (same_object o q) (bit-settable p es j there h)))

      trigger : Cause p es command element ddi value 0x08 → misses_trigger (triggers_here p es j) command ≡ true
      trigger (no_trigger {b} s q n) =
          trigger-lacks (triggers_here p es j) s
          (λ (h : Bit b (triggers_here p es j)). n (subst (λ (x : ℕ). Triggered p es x b) (same_object o q) (bit-triggered p es j b there h)))

      interval : Cause p es command element ddi value 0x20 → misses_interval value command ≡ true
      interval (negative_interval i n) = interval-lacks i n

      of-object : FirstMatch (Cause p es command element ddi value) (0x10 ∷ 0x08 ∷ 0x20 ∷ []) (error_of_object (properties_here p es j) (triggers_here p es j) command value)
      unfolding error_of_object
      of-object =
          test (misses_setting (properties_here p es j) command)
          (λ t. let s = lacks-setting (properties_here p es j) command t in not_settable s.0 o (λ (k : Settable p es j). s.1 (settable-bit p es j k)))
          setting
          (test (misses_trigger (triggers_here p es j) command)
          (λ t. let s = lacks-trigger (triggers_here p es j) command t in no_trigger s.1 o (λ (k : Triggered p es j s.0). s.2 (triggered-bit p es j k)))
          trigger
          (test (misses_interval value command)
          (λ t. let s = lacks-interval value command t in negative_interval s.0 s.1)
          interval
          none))

    -- all of them
    carried : Carries command → Cause p es command element ddi value 0x01 → ⊥
    carried c (no_value h) = h c

    numbered : {i : ℕ} → Numbered p es element i → Cause p es command element ddi value 0x02 → ⊥
    numbered {i} n (no_element h) = h i n

    listed : {j : ℕ} → Object p es element ddi j → Cause p es command element ddi value 0x04 → ⊥
    listed {j} o (no_object n h) = h j (subst (λ (x : ℕ). InList p es x ddi j) (same-element o.numbered n) o.listed)

    module _ (small : element ≤ 4095) where
      judged : ErrorByte p es command element ddi value (error_of p es command element ddi value)
      judged = by-command (is_value_carrier command) refl
        where
          by-object : is_value_carrier command ≡ true → (i : ℕ) → element_for p es element ≡ suc i → Numbered p es element i
              → FoundObject p es i ddi (object_for p es (start_at es i) ddi) → ErrorByte p es command element ddi value (error_of p es command element ddi value)
          by-object c i e n (inl (z, h)) =
              subst (ErrorByte p es command element ddi value)
              (Erring.no_object p es command element ddi value c (λ (q : element_for p es element ≡ 0). omega (arith, e, q)) (rw e z))
              (after (carried (test-carries command c)) (after (numbered n) (here (no_object n h))))
          by-object c i e n (inr (j, f, l)) =
              let o : Object p es element ddi j = record { owner = i; numbered = n; listed = l } in
              subst (ErrorByte p es command element ddi value)
              (Erring.of-object p es command element ddi value c (λ (q : element_for p es element ≡ 0). omega (arith, e, q)) (suc j) (rw e (sym f)) (λ (q : suc j ≡ 0). omega arith))
              (after (carried (test-carries command c)) (after (numbered n) (after (listed o) (of-object j o))))

          by-element : is_value_carrier command ≡ true → FoundElement p es element (element_for p es element)
              → ErrorByte p es command element ddi value (error_of p es command element ddi value)
          by-element c (inl (z, h)) =
              subst (ErrorByte p es command element ddi value) (Erring.no_element p es command element ddi value c z)
              (after (carried (test-carries command c)) (here (no_element h)))
          by-element c (inr (i, e, n)) = by-object c i e n (found-object p es i ddi)

          by-command : (t : Bool) → is_value_carrier command ≡ t → ErrorByte p es command element ddi value (error_of p es command element ddi value)
          by-command false t =
              subst (ErrorByte p es command element ddi value) (Erring.no-command p es command element ddi value t)
              (here (no_value (λ (c : Carries command). true≢false (sym (carries_test c) ∙ t))))
          by-command true t = by-element t (found-element p es element)

-- ---- the claim

pub caused : ErrorIsFirstCause
unfolding judge_number judge_error
caused p room command element ddi value =
    record {
      over = λ h. rw (lt-ltb 4095 element h) (refl, refl);
      refused = λ small h. rw (le-ltb 4095 element small, ne_eqb (acceptance p room) 0 h) (refl, refl);
      judged = λ small ok. rw (le-ltb 4095 element small, ok) (refl, exact small ok);
      defined = exact;
    }
  where
    exact : element ≤ 4095 → acceptance p room ≡ 0 → (e : ℕ)
        → (error_of p (entries_in (scan_of p)) command element ddi value ≡ e) ↔ ErrorByte p (entries_in (scan_of p)) command element ddi value e
    exact small ok e =
        let es = entries_in (scan_of p) in
        let it : ErrorByte p es command element ddi value (error_of p es command element ddi value) =
        judged p es (accepted-one p room ok) command element ddi value small in
        (λ q. subst (ErrorByte p es command element ddi value) q it, λ b. unique it b)
