-- What a query answers for an accepted pool and the list of its records. Assumes nothing.
use mathlib.Core.Path.{◌≡◌, refl, sym, ap, subst, ◌∙◌}
use mathlib.Core.List.{List}
use Rattle.std.specs.Prelude.{Result, Ok, Err}
use Prim.Native.Nat.{ℕ, zero, suc, ◌+◌, ◌-◌, ◌<◌, ◌≤◌}
use native.Mathlib.Omega.{arith}
use borrow.Author.Tests.{ne_eqb}
use lib.ListN.{length, get_or, take, replicate}
use lib.Seq.{get_or-take, length-take-le}
use Rattle.records.specs.Layout.{mark_code, mark_of, three}
use Rattle.records.specs.declared.Span.{Span}
use Rattle.views.specs.Fields.{part_of, device_of}
use Rattle.pool.specs.Answer.{Answer, answer}
use Rattle.pool.specs.Reading.{Entry, scan_of, entries_in, read_of}
use Rattle.pool.specs.Walk.{entries_of, Divided, Listed}
use Rattle.pool.proofs.Starts.{entries-long, starts-stretch}
use Rattle.naming.specs.Records.{start_at, id_at, kind_at}
use Rattle.naming.specs.Naming.{first_of}
use Rattle.naming.proofs.First.{first_some, first-le}
use Rattle.naming.proofs.Starts.{start-read, kind-is}
use Rattle.checker.specs.Checking.{verdict_of, check_of}
use Rattle.pool.specs.declared.Refusal as Unread
use Rattle.checker.specs.declared.Checked.{Checked}
use Rattle.queries.specs.Queries.{refusal_in, refusal_number, acceptance, asked_text, carrier, text_number, text_span, Finds, device_in, padded, if_accepted, Labelled, structure_label, localization_label, extended_text, extended_label, extended_count}
use Rattle.queries.specs.Parts.{Accepts, FindsAmong, CheckedBy, LabelledBy}
use Rattle.queries.specs.declared.Refusal.{Refusal}
use Rattle.queries.specs.declared.Refusal.TheVariants.{NoRecord}
use Rattle.queries.specs.declared.DeviceLabels.{DeviceLabels}
use Rattle.queries.proofs.Accepted.{accepted-read, accepted-device}
use Rattle.queries.proofs.Whole.{Stands, text-within, extended-limit}
use Rattle.queries.proofs.Padded.{extended-long}

-- the refusal that a verdict has is the pool's
pub refused_as : (p : List ℕ) (room : ℕ) (a : Answer) (number : ℕ) → number ≡ refusal_in a → a ≡ check_of p room → number ≡ acceptance p room
unfolding acceptance
refused_as p room a number e f = e ∙ ap refusal_in f

-- ---- a pool that is not accepted

module _ (p : List ℕ) (room : ℕ) (list : List ℕ) (v : Result Checked Unread.Refusal) (k : CheckedBy p room list v) (refusal : Refusal) (m : Accepts v (Err refusal)) where
  refused : refusal_number refusal ≡ acceptance p room
  refused = refused_as p room (verdict_of v) (refusal_number refusal) m.0 k.verdict

  pub text-refused : (id : ℕ) → Finds p room id (Err refusal)
  unfolding text_number text_span
  text-refused id =
      let none = ne_eqb (refusal_number refusal) 0 m.1 in
      record { number = rw (← refused, none); from = rw (← refused, none); to = rw (← refused, none); ordered = omega arith; within = omega arith }

  pub labels-refused : (number : ℕ) → number ≡ refusal_number refusal
      → Labelled p room (record { number = number; structure = replicate 7 0; localization = replicate 7 0; extended = replicate 32 0; extended_length = 0 })
  unfolding structure_label localization_label extended_label extended_count extended_text
  labels-refused number e =
      let r = go (refusal_number refusal) m.1 in
      record { number = e ∙ refused; structure = rw (← refused) r.0; localization = rw (← refused) r.1; extended = rw (← refused) r.2; count = rw (← refused) r.3 }
    where
      go : (n : ℕ) → (n ≡ 0 → ⊥)
          → (replicate 7 0 ≡ padded 7 (if_accepted n (part_of p (device_in p (entries_in (scan_of p))).structure)))
          × (replicate 7 0 ≡ padded 7 (if_accepted n (part_of p (device_in p (entries_in (scan_of p))).localization)))
          × (replicate 32 0 ≡ padded 32 (if_accepted n (part_of p (device_in p (entries_in (scan_of p))).extended)))
          × (0 ≡ length (if_accepted n (part_of p (device_in p (entries_in (scan_of p))).extended)))
      go zero z = absurd (z refl)
      go (suc n) z = (refl, refl, refl, refl)

-- ---- among the records of a pool

module _ (p starts : List ℕ) (h : Divided p starts) where
  -- a whole record stands where each starts
  pub stands : (i : ℕ) → suc i < length starts → Stands p (get_or starts i 0) (kind_at (entries_of p starts) i)
  stands i l =
      record { end = get_or starts (suc i) 0; ends = (starts-stretch p starts h i l).ends; marked = sym (kind-is p starts i l) }

  -- the place of a record that was found, in the list of starts
  pub index-listed : (id i : ℕ) → suc i ≡ carrier (entries_of p starts) id → suc i < length starts
  index-listed id i e = omega (arith, e, first-le (id_at (entries_of p starts)) id (length (entries_of p starts)), entries-long p starts, h.some)

  -- the place of a record with a number, likewise
  pub number-listed : (key : ℕ → ℕ) (x r : ℕ) → r ≡ first_of key x (length (entries_of p starts)) → (r ≡ 0 → ⊥) → suc (r - 1) < length starts
  number-listed key x r e z = omega (arith, first-le key x (length (entries_of p starts)), entries-long p starts, h.some)

  pub missing-among : (id : ℕ) → 0 ≡ carrier (entries_of p starts) id → FindsAmong p (entries_of p starts) id (Err NoRecord)
  missing-among id e = record { number = rw (← e); from = rw (← e); to = rw (← e); ordered = omega arith; within = omega arith }

  pub found_among : (i id : ℕ) (s : Span) → suc i ≡ carrier (entries_of p starts) id
      → s ≡ asked_text p (mark_code (mark_of (three p (get_or starts i 0)))) (get_or starts i 0)
      → FindsAmong p (entries_of p starts) id (Ok s)
  found_among i id s e is =
      let es = entries_of p starts in
      let l : suc i < length starts = index-listed id i e in
      let same : s ≡ asked_text p (kind_at es i) (start_at es i) = is ∙ rw (kind-is p starts i l, start-read p starts i l) in
      let w = text-within p (start_at es i) (kind_at es i) (subst (λ (at : ℕ). Stands p at (kind_at es i)) (start-read p starts i l) (stands i l)) in
      record {
        number = rw (← e, ne_eqb (suc i) 0 (λ (q : suc i ≡ 0). omega arith));
        from = rw (← e, same);
        to = rw (← e, same);
        ordered = rw same w.0;
        within = rw same w.1;
      }

-- ---- an accepted pool, and the list that checking has made

module _ (p : List ℕ) (room : ℕ) (list : List ℕ) (v : Result Checked Unread.Refusal) (k : CheckedBy p room list v) (n : ℕ) (m : Accepts v (Ok n)) where
  ok : 0 ≡ acceptance p room
  ok = refused_as p room (verdict_of v) 0 (sym m.0) k.verdict

  read : answer 0 n ≡ read_of p room
  read = ap (answer 0) (m.1 ∙ k.records) ∙ accepted-read p room (sym ok)

  listed : (n < length list) × Divided p (take (n + 1) list)
  unfolding Listed
  listed =
      let value : (read_of p room).value ≡ n = sym (ap (λ (a : Answer). a.value) read) in
      rw value at (k.listed (sym (ap (λ (a : Answer). a.number) read)))

  pub listed-room : n + 1 ≤ length list
  listed-room = omega (arith, listed.0)

  pub listed-divided : Divided p (take (n + 1) list)
  listed-divided = listed.1

  -- its records are those of the pool
  pub listed-all : entries_of p (take (n + 1) list) ≡ entries_in (scan_of p)
  listed-all = sym (ap entries_in listed-divided.divides)

  pub text-found : (id : ℕ) (r : Result Span Refusal) → FindsAmong p (entries_of p (take (n + 1) list)) id r → Finds p room id r
  unfolding text_number text_span
  text-found id r h =
      let f : FindsAmong p (entries_in (scan_of p)) id r = rw listed-all at h in
      record {
        number = rw (← ok) f.number;
        from = rw (← ok) f.from;
        to = rw (← ok) f.to;
        ordered = f.ordered;
        within = f.within;
      }

  -- the device, by its number
  module _ (r : ℕ) (e : r ≡ first_of (kind_at (entries_of p (take (n + 1) list))) 1 (length (entries_of p (take (n + 1) list)))) where
    first : r ≡ first_of (kind_at (entries_in (scan_of p))) 1 (length (entries_in (scan_of p)))
    first = rw listed-all at e

    pub device-there : r ≡ 0 → ⊥
    device-there z = accepted-device p room (sym ok) (sym first ∙ z)

    inside : suc (r - 1) < length (take (n + 1) list)
    inside = number-listed p (take (n + 1) list) listed-divided (kind_at (entries_of p (take (n + 1) list))) 1 r e device-there

    pub device-inside : r - 1 < length list
    device-inside = omega (arith, inside, length-take-le (n + 1) list listed-room, listed-room)

    start : get_or list (r - 1) 0 ≡ get_or (take (n + 1) list) (r - 1) 0
    start = sym (get_or-take (n + 1) list (r - 1) 0 (omega (arith, inside, length-take-le (n + 1) list listed-room)))

    number : first_of (kind_at (entries_in (scan_of p))) 1 (length (entries_in (scan_of p))) ≡ suc (r - 1)
    number =
        let z : (r ≡ 0 → ⊥) = device-there in
        let f : r ≡ first_of (kind_at (entries_in (scan_of p))) 1 (length (entries_in (scan_of p))) = first in
        omega arith

    kind : kind_at (entries_of p (take (n + 1) list)) (r - 1) ≡ 1
    kind = rw listed-all (first_some (kind_at (entries_in (scan_of p))) 1 (length (entries_in (scan_of p))) (r - 1) number).1

    pub device-short : length (part_of p (device_of p (get_or list (r - 1) 0)).extended) ≤ 32
    device-short =
        let at = get_or (take (n + 1) list) (r - 1) 0 in
        rw start
        (extended-long p at (extended-limit p at (kind_at (entries_of p (take (n + 1) list)) (r - 1)) (stands p (take (n + 1) list) listed-divided (r - 1) inside) kind))

    device-is : device_of p (get_or list (r - 1) 0) ≡ device_in p (entries_in (scan_of p))
    unfolding device_in
    device-is =
        rw (number, start, start-read p (take (n + 1) list) (r - 1) inside)
        (ap (λ (es : List Entry). device_of p (start_at es (r - 1))) listed-all)

    pub labels-found : (l : DeviceLabels) → LabelledBy p (device_of p (get_or list (r - 1) 0)) l → Labelled p room l
    unfolding structure_label localization_label extended_label extended_count extended_text
    labels-found l h =
        let g : LabelledBy p (device_in p (entries_in (scan_of p))) l = rw device-is at h in
        record {
          number = g.number ∙ ok;
          structure = rw (← ok) g.structure;
          localization = rw (← ok) g.localization;
          extended = rw (← ok) g.extended;
          count = rw (← ok) g.count;
        }
