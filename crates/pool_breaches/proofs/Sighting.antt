-- What one pass over the records knows of device elements, record by record. Assumes nothing.
use mathlib.Core.Path.{◌≡◌, sym, ap, ◌∙◌, subst}
use mathlib.Core.Bool.{Bool, true, false, ◌&&◌, ◌||◌, true≢false}
use Prim.Native.Nat.{ℕ, suc, ◌+◌, ◌*◌, ◌<◌, ◌≤◌}
use native.Mathlib.Decide.{ℕ_discrete}
use native.Mathlib.Omega.{arith}
use borrow.Author.Tests.{eq-eqb, ltb-false}
use lib.Dec.{eqb, ltb}
use lib.ListN.{length}
use Rattle.marks.specs.Bits.{bit_at}
use Rattle.records.specs.Layout.{mark_code}
use Rattle.records.specs.declared.DeviceElement.{DeviceElement}
use Rattle.views.specs.Fields.{element_of}
use Rattle.pool.proofs.Starts.{entries-long}
use Rattle.naming.specs.Records.{start_at, kind_at}
use Rattle.naming.specs.Naming.{named, kind_of}
use Rattle.naming.specs.Entries.{entries_in}
use Rattle.naming.specs.declared.RecordList.{RecordList}
use Rattle.naming.specs.Lists.{Blank}
use Rattle.rules.specs.Table.{repeats, element_key}
use Rattle.rules.proofs.Repeats.{element-key}
use Rattle.chains.specs.Steps.{Falling}
use Rattle.chains.proofs.Noting.{noted-start, noted_more, noted-repeats, element-passed}
use Rattle.chains.proofs.Falling.{falling-start, falling-other, falling-out, falling-on, falling-endless}
use Rattle.field_rules.proofs.Clearing.{clear_both}
use Rattle.record_breaches.specs.declared.element.ElementRecord.{ElementRecord}
use Rattle.record_breaches.specs.Elements.{pool_of, around, repeats_number, never_ends}
use Rattle.record_breaches.proofs.Elements.{inside, fields-read}
use Rattle.pool_breaches.specs.declared.sight.Sight.{Sight}
use Rattle.pool_breaches.specs.Passing.{BreachesMarked, Sighted}

behind : (i : ℕ) → suc i + 1 ≡ suc (i + 1)
behind i = omega arith

module _ (records : RecordList) where
  pub sighted-start : (s : Sight) → s.full ≡ false → 4096 ≤ 8 * length s.numbers.now → length records.starts.now ≤ 8 * length s.again.now → length records.starts.now ≤ 8 * length s.endless.now
      → Blank s.numbers.now → Blank s.again.now → Blank s.endless.now → Sighted records 0 s
  sighted-start s plain room a b noted repeating circling =
      record {
        room = room;
        again_room = a;
        endless_room = b;
        marked = λ e. absurd (true≢false (sym e ∙ plain));
        blank = λ e. (repeating, circling);
        noted = λ e. noted-start 4096 (element_key records.pool.now (entries_in records)) s.numbers.now noted;
        falling = λ e. falling-start records.pool.now (entries_in records);
      }

  -- what was seen in lists of entries does not matter
  pub sighted-seen : (i : ℕ) (s t : Sight) → t.numbers ≡ s.numbers → t.again ≡ s.again → t.endless ≡ s.endless → t.full ≡ s.full → Sighted records i s → Sighted records i t
  sighted-seen i s t a b c d w =
      record {
        room = rw a w.room;
        again_room = rw b w.again_room;
        endless_room = rw c w.endless_room;
        marked = rw (b, c, d) w.marked;
        blank = rw (b, c, d) w.blank;
        noted = rw (a, d) w.noted;
        falling = rw d w.falling;
      }

  -- a record that is no device element
  pub sighted-other : (i : ℕ) (s : Sight) → Sighted records i s → (kind_at (entries_in records) i ≡ 2 → ⊥) → Sighted records (i + 1) s
  sighted-other i s w other =
      let p = records.pool.now in
      let es = entries_in records in
      record {
        room = w.room;
        again_room = w.again_room;
        endless_room = w.endless_room;
        marked = w.marked;
        blank = w.blank;
        noted = λ e. (element-passed 4096 p es i s.numbers.now (w.noted e) other).1;
        falling = λ e. subst (Falling p es) (behind i) (falling-other p es i (w.falling e) other);
      }

module _ (e : ElementRecord) where
  number_is : element_key (pool_of e) (around e) e.i ≡ suc e.fields.number
  number_is = element-key (pool_of e) (around e) e.i e.is_element ∙ ap (λ (x : DeviceElement). suc x.number) (sym (fields-read e))

  by_number : repeats (element_key (pool_of e) (around e)) (element_key (pool_of e) (around e) e.i) e.i (length (around e)) ≡ repeats_number e
  by_number = ap (λ (x : ℕ). repeats (element_key (pool_of e) (around e)) x e.i (length (around e))) number_is

  -- all records have been marked
  module _ (s : Sight) (marked : BreachesMarked (pool_of e) e.names.now.records.starts.now s.again.now s.endless.now) where
    pub marked-repeats : bit_at s.again.now e.i ≡ repeats_number e
    marked-repeats = marked.repeating e.i (inside e) e.is_element ∙ by_number

    pub marked-circles : bit_at s.endless.now e.i ≡ never_ends e
    marked-circles = marked.circling e.i (inside e)

    pub marked-sighted : s.full ≡ true → 4096 ≤ 8 * length s.numbers.now → length e.names.now.records.starts.now ≤ 8 * length s.again.now → length e.names.now.records.starts.now ≤ 8 * length s.endless.now
        → Sighted e.names.now.records (e.i + 1) s
    marked-sighted full room a b =
        record {
          room = room;
          again_room = a;
          endless_room = b;
          marked = λ f. marked;
          blank = λ f. absurd (true≢false (sym full ∙ f));
          noted = λ f. absurd (true≢false (sym full ∙ f));
          falling = λ f. absurd (true≢false (sym full ∙ f));
        }

  -- a usual device element, before any record is marked: its number is noted, and its chain of parents ends
  module _ (s : Sight) (w : Sighted e.names.now.records e.i s) (unusual : Bool) (unusual-is : unusual ≡ (ltb 4095 e.fields.number || (eqb (mark_code e.kind) 2 && ltb e.i e.parent)))
      (none : s.full || unusual ≡ false) where
    pub plain : (s.full ≡ false) × (unusual ≡ false)
    plain = clear_both s.full unusual none

    usual : (ltb 4095 e.fields.number ≡ false) × (eqb (mark_code e.kind) 2 && ltb e.i e.parent ≡ false)
    usual = clear_both (ltb 4095 e.fields.number) (eqb (mark_code e.kind) 2 && ltb e.i e.parent) (sym unusual-is ∙ plain.1)

    number-low : e.fields.number < 4096
    number-low = omega (arith, ltb-false 4095 e.fields.number usual.0)

    pub usual-low : e.fields.number < 8 * length s.numbers.now
    usual-low = omega (arith, number-low, w.room)

    -- rule 8
    pub usual-repeats : bit_at s.numbers.now e.fields.number ≡ repeats_number e
    usual-repeats =
        noted-repeats 4096 (element_key (pool_of e) (around e)) e.i s.numbers.now (w.noted plain.0) e.fields.number number_is number-low (length (around e)) (omega (arith, entries-long (pool_of e) e.names.now.records.starts.now, inside e))
        ∙ by_number

    falls : Falling (pool_of e) (around e) (suc e.i + 1)
    falls = go (ℕ_discrete (mark_code e.kind) 2)
      where
        names : e.parent ≡ named (around e) (element_of (pool_of e) (start_at (around e) e.i)).parent
        names = e.parent_named ∙ ap (λ (x : DeviceElement). named (around e) x.parent) (fields-read e)

        go : Dec (mark_code e.kind ≡ 2) → Falling (pool_of e) (around e) (suc e.i + 1)
        go (yes k) =
            let low : ltb e.i e.parent ≡ false = rw (eq-eqb (mark_code e.kind) 2 k) at usual.1 in
            falling-on (pool_of e) (around e) e.i (w.falling plain.0) e.parent e.is_element names (sym e.kind_told ∙ k) (ltb-false e.i e.parent low)
        go (no k) = falling-out (pool_of e) (around e) e.i (w.falling plain.0) e.parent e.is_element names (λ (q : kind_of (around e) e.parent ≡ 2). k (e.kind_told ∙ q))

    -- rule 9
    pub usual-circles : false ≡ never_ends e
    usual-circles = sym (falling-endless (pool_of e) (around e) (suc e.i + 1) (suc e.i) falls (omega arith) (omega (arith, entries-long (pool_of e) e.names.now.records.starts.now, inside e)))

    pub usual-sighted : (s' : Sight) → s'.full ≡ false → s'.again.now ≡ s.again.now → s'.endless.now ≡ s.endless.now → length s'.numbers.now ≡ length s.numbers.now
        → ((j : ℕ) → j < 8 * length s.numbers.now → bit_at s'.numbers.now j ≡ (eqb j e.fields.number || bit_at s.numbers.now j)) → Sighted e.names.now.records (e.i + 1) s'
    usual-sighted s' f a b n adds =
        record {
          room = omega (arith, w.room, n);
          again_room = rw a w.again_room;
          endless_room = rw b w.endless_room;
          marked = λ t. absurd (true≢false (sym t ∙ f));
          blank = λ _. rw (a, b) (w.blank plain.0);
          noted = λ _. noted_more 4096 (element_key (pool_of e) (around e)) e.i s.numbers.now (w.noted plain.0) e.fields.number number_is w.room s'.numbers.now adds;
          falling = λ _. subst (Falling (pool_of e) (around e)) (behind e.i) falls;
        }
