-- A table filled from a pool: a list of the records' starts gives the table after reading. Assumes nothing.
use mathlib.Core.Path.{◌≡◌, refl, sym, ap, subst, ◌∙◌}
use mathlib.Core.List.{List, [], ◌∷◌, ◌++◌, map}
use Rattle.std.specs.Prelude.{Result, Ok, Err}
use Prim.Native.Nat.{ℕ, zero, suc, ◌+◌, ◌≤◌, ◌<◌}
use native.Mathlib.Decide.{ℕ_discrete, dec_lt}
use native.Mathlib.Omega.{arith}
use borrow.Author.Tests.{eq-eqb, ne_eqb}
use lib.ListN.{length, get_or, set, take, drop, length-set, length-take}
use lib.Seq.{sets, get_or-take, length-take-le, take-take, take-nil}
use Rattle.std.proofs.lemmas.List.{set-append_left}
use Rattle.wire.specs.Bytes.{number_in}
use Rattle.records.specs.Layout.{layout, mark_code, mark_of, three}
use Rattle.records.specs.Places.{field_at, id_of, parent_id_of}
use Rattle.records.specs.declared.Kind.TheVariants.{Det}
use Rattle.records.proofs.Range.{parent-within}
use Rattle.pool.specs.Answer.{Answer, answer, answer_of, records_in}
use Rattle.pool.specs.Reading.{Entry, entry_at, Scan, scan_of, entries_in, read_of}
use Rattle.pool.specs.Walk.{entries_of, Divided, Listed}
use Rattle.pool.specs.declared.Refusal.{Refusal}
use Rattle.pool.proofs.Judged.{refused-number, read-counted}
use Rattle.pool.proofs.Starts.{entries-long, entry-at, starts-stretch, starts-marked}
use Rattle.working_table.specs.declared.Record.{Record}
use Rattle.working_table.specs.Table.{record_of, records_after}
use Rattle.working_table.specs.Rows.{row_in, gathered, Stands, Fillable}

pub row_is : (p starts : List ℕ) (i : ℕ) → row_in p starts i ≡ record_of (entry_at p (get_or starts i 0) (get_or starts (suc i) 0))
unfolding row_in
row_is p starts i = refl

pub gathered_none : (p starts : List ℕ) (table : List Record) → gathered p starts 0 table ≡ table
unfolding gathered
gathered_none p starts table = refl

pub gathered_next : (p starts : List ℕ) (n : ℕ) (table : List Record) → gathered p starts (suc n) table ≡ set (gathered p starts n table) n (row_in p starts n)
unfolding gathered
gathered_next p starts n table = refl

pub gathered-length : (p starts : List ℕ) (n : ℕ) (table : List Record) → length (gathered p starts n table) ≡ length table
unfolding gathered
gathered-length p starts zero table = refl
gathered-length p starts (suc n) table = length-set (gathered p starts n table) n (row_in p starts n) ∙ gathered-length p starts n table

-- the entries behind those that are filled stay
pub gathered-front : (p starts : List ℕ) (n : ℕ) (front rest : List Record) → n ≤ length front → gathered p starts n (front ++ rest) ≡ gathered p starts n front ++ rest
unfolding gathered
gathered-front p starts zero front rest h = refl
gathered-front p starts (suc n) front rest h =
    ap (λ (t : List Record). set t n (row_in p starts n)) (gathered-front p starts n front rest (omega arith))
    ∙ set-append_left (gathered p starts n front) rest n (row_in p starts n) (omega (arith, gathered-length p starts n front))

none : Entry
none = entry_at [] 0 0

-- records from place i on, whose entries the list gives, are laid over the table
gathers : (p starts : List ℕ) (table : List Record) (es : List Entry) (i : ℕ) → ((k : ℕ) → k < length es → row_in p starts (i + k) ≡ record_of (get_or es k none))
    → gathered p starts (i + length es) table ≡ sets (gathered p starts i table) i (map record_of es)
gathers p starts table [] i rows = let same : i + 0 ≡ i = omega arith in ap (λ (k : ℕ). gathered p starts k table) same
gathers p starts table (e ∷ es) i rows =
    let count : i + suc (length es) ≡ suc i + length es = omega arith in
    let here : i + 0 ≡ i = omega arith in
    let next : (k : ℕ) → k < length es → row_in p starts (suc i + k) ≡ record_of (get_or es k none) =
    λ k l. let later : suc i + k ≡ i + suc k = omega arith in ap (row_in p starts) later ∙ rows (suc k) (omega arith) in
    ap (λ (k : ℕ). gathered p starts k table) count
    ∙ gathers p starts table es (suc i) next
    ∙ ap (λ (l : List Record). sets l (suc i) (map record_of es)) (gathered_next p starts i table ∙ ap (set (gathered p starts i table) i) (sym (ap (row_in p starts) here) ∙ rows 0 (omega arith)))

-- the first n entries can be filled, and the table is then the one after reading
pub record Gathers (p starts : List ℕ) (n : ℕ) (table : List Record) : Type 0 where
  pub fillable : Fillable p starts n table
  pub after : gathered p starts n table ≡ records_after p table

-- filling no entries asks nothing of the list
pub none-fillable : (p starts : List ℕ) (n : ℕ) (table : List Record) → n ≡ 0 → Fillable p starts n table
none-fillable p starts n table none = record { room = omega arith; stands = λ i l. absurd (omega arith) }

-- each record of a list that divides the pool can be read
divided-stands : (p starts : List ℕ) (n : ℕ) → n < length starts → Divided p (take (n + 1) starts) → (i : ℕ) → i < n → Stands p starts i
divided-stands p starts n h d i l =
    let t : List ℕ = take (n + 1) starts in
    let long : length t ≡ n + 1 = length-take-le (n + 1) starts (omega arith) in
    let at : get_or t i 0 ≡ get_or starts i 0 = get_or-take (n + 1) starts i 0 (omega arith) in
    let end : get_or t (suc i) 0 ≡ get_or starts (suc i) 0 = get_or-take (n + 1) starts (suc i) 0 (omega arith) in
    let s = starts-stretch p t d i (omega arith) in
    record {
      listed = omega arith;
      rises = omega (arith, s.later);
      within = omega (arith, s.later, s.within);
      marked = subst (λ (k : ℕ). mark_code (mark_of (three p k)) ≡ 0 → ⊥) at (starts-marked p t d i (omega arith));
      parent = subst (λ (k : ℕ). mark_code (mark_of (three p k)) ≡ 2 → field_at Det 4 p k + 2 ≤ length p) at
          (λ e. omega (arith, parent-within p (get_or t i 0) (get_or t (suc i) 0) s.ends e, s.within));
    }

-- a list that divides the pool gives the entries that reading does
laid : (p starts : List ℕ) (n : ℕ) (table : List Record) → n < length starts → Divided p (take (n + 1) starts) → gathered p starts n table ≡ sets table 0 (map record_of (entries_in (scan_of p)))
laid p starts n table h d =
    let t : List ℕ = take (n + 1) starts in
    let es : List Entry = entries_of p t in
    let long : length t ≡ n + 1 = length-take-le (n + 1) starts (omega arith) in
    let count : n ≡ 0 + length es = omega (arith, entries-long p t) in
    ap (λ (k : ℕ). gathered p starts k table) count
    ∙ gathers p starts table es 0 (λ k l. let here : 0 + k ≡ k = omega arith in ap (row_in p starts) here ∙ row_is p starts k
    ∙ sym (ap record_of (entry-at p t none k (omega (arith, entries-long p t)) ∙ ap (λ (a : ℕ). entry_at p a (get_or t (suc k) 0)) (get_or-take (n + 1) starts k 0 (omega (arith, entries-long p t))) ∙ ap (entry_at p (get_or starts k 0)) (get_or-take (n + 1) starts (suc k) 0 (omega (arith, entries-long p t))))))
    ∙ ap (λ (l : List Record). sets l 0 (map record_of es)) (gathered_none p starts table)
    ∙ ap (λ (s : Scan). sets table 0 (map record_of (entries_in s))) (sym d.divides)

-- as many entries as reading counts are filled, and none where it refuses
pub listed-gathers : (p starts : List ℕ) (n : ℕ) (table : List Record) → Listed p (length table) starts → ((read_of p (length table)).number ≡ 0 → n ≡ (read_of p (length table)).value) → (((read_of p (length table)).number ≡ 0 → ⊥) → n ≡ 0) → Gathers p starts n table
unfolding records_after Listed
listed-gathers p starts n table listed counted refused = go (dec_lt 0 (read_of p (length table)).number)
  where
    go : Dec (0 < (read_of p (length table)).number) → Gathers p starts n table
    go (no h) =
        let e : (read_of p (length table)).number ≡ 0 = omega arith in
        let l = listed e in
        let c : (read_of p (length table)).value ≡ n = sym (counted e) in
        let same : answer 0 n ≡ read_of p (length table) = ap (answer 0) (sym c) ∙ ap (λ (k : ℕ). answer k (read_of p (length table)).value) (sym e) in
        record {
          fillable = record { room = (read-counted p (length table) n same).fits; stands = divided-stands p starts n (rw c at l.0) (rw c at l.1) };
          after = rw (eq-eqb (read_of p (length table)).number 0 e) (laid p starts n table (rw c at l.0) (rw c at l.1));
        }
    go (yes h) =
        let z : (read_of p (length table)).number ≡ 0 → ⊥ = λ e. omega arith in
        record { fillable = none-fillable p starts n table (refused z); after = rw (ne_eqb (read_of p (length table)).number 0 z) (ap (λ (k : ℕ). gathered p starts k table) (refused z) ∙ gathered_none p starts table) }

-- a table can be filled from more bytes than the pool's, and is the same: only bytes of the pool are read
part_of : (w k a : ℕ) (s : List ℕ) → k + w ≤ a → take w (drop k (take a s)) ≡ take w (drop k s)
part_of w zero a s h = take-take w a s (omega arith)
part_of w (suc k) a [] h = ap (λ (l : List ℕ). take w (drop (suc k) l)) (take-nil a)
part_of w (suc k) zero (x ∷ s) h = absurd (omega arith)
part_of w (suc k) (suc a) (x ∷ s) h = part_of w k a s (omega arith)

three-part : (a : ℕ) (s : List ℕ) (at : ℕ) → at + 5 ≤ a → three (take a s) at ≡ three s at
three-part a s at h = rw (get_or-take a s at 0 (omega arith), get_or-take a s (at + 1) 0 (omega arith), get_or-take a s (at + 2) 0 (omega arith))

number-part : (a : ℕ) (s : List ℕ) (at : ℕ) → at + 2 ≤ a → number_in 2 (take a s) at ≡ number_in 2 s at
unfolding number_in
number-part a s at h = rw (part_of 2 at a s h)

id-part : (a : ℕ) (s : List ℕ) (at : ℕ) → at + 5 ≤ a → id_of (take a s) at ≡ id_of s at
unfolding id_of
id-part a s at h = number-part a s (at + 3) (omega arith)

-- a device element's designator decides where its parent ID stands
place-part : (a : ℕ) (s : List ℕ) (at : ℕ) → field_at Det 4 (take a s) at + 2 ≤ a → field_at Det 4 (take a s) at ≡ field_at Det 4 s at
unfolding field_at layout
place-part a s at h = rw (get_or-take a s (at + 3 + 2 + 1) 0 (omega arith))

parent-part : (a : ℕ) (s : List ℕ) (at : ℕ) → at + 5 ≤ a → (mark_code (mark_of (three (take a s) at)) ≡ 2 → field_at Det 4 (take a s) at + 2 ≤ a) → parent_id_of (take a s) at ≡ parent_id_of s at
unfolding parent_id_of
parent-part a s at h field = go (ℕ_discrete (mark_code (mark_of (three s at))) 2)
  where
    same : three (take a s) at ≡ three s at
    same = three-part a s at h

    go : Dec (mark_code (mark_of (three s at)) ≡ 2) → parent_id_of (take a s) at ≡ parent_id_of s at
    go (yes e) =
        let within = field (ap (λ (l : List ℕ). mark_code (mark_of l)) same ∙ e) in
        rw (same, eq-eqb (mark_code (mark_of (three s at))) 2 e) (number-part a s (field_at Det 4 (take a s) at) within ∙ ap (number_in 2 s) (place-part a s at within))
    go (no n) = rw (same, ne_eqb (mark_code (mark_of (three s at))) 2 n)

entry-part : (a : ℕ) (s : List ℕ) (at end : ℕ) → at + 5 ≤ a → (mark_code (mark_of (three (take a s) at)) ≡ 2 → field_at Det 4 (take a s) at + 2 ≤ a) → entry_at (take a s) at end ≡ entry_at s at end
entry-part a s at end h field = rw (three-part a s at h, id-part a s at h, parent-part a s at h field)

module _ (a : ℕ) (s starts : List ℕ) where
  in-part : (i : ℕ) → Stands (take a s) starts i → get_or starts i 0 + 5 ≤ a
  in-part i x = omega (arith, x.within, length-take a s)

  parent-in-part : (i : ℕ) → Stands (take a s) starts i → mark_code (mark_of (three (take a s) (get_or starts i 0))) ≡ 2 → field_at Det 4 (take a s) (get_or starts i 0) + 2 ≤ a
  parent-in-part i x e = omega (arith, x.parent e, length-take a s)

  stands-part : (i : ℕ) → Stands (take a s) starts i → Stands s starts i
  stands-part i x = record {
    listed = x.listed;
    rises = x.rises;
    within = omega (arith, x.within, length-take a s);
    marked = subst (λ (l : List ℕ). mark_code (mark_of l) ≡ 0 → ⊥) (three-part a s (get_or starts i 0) (in-part i x)) x.marked;
    parent = λ e. let within = parent-in-part i x (ap (λ (l : List ℕ). mark_code (mark_of l)) (three-part a s (get_or starts i 0) (in-part i x)) ∙ e) in
        omega (arith, x.parent (ap (λ (l : List ℕ). mark_code (mark_of l)) (three-part a s (get_or starts i 0) (in-part i x)) ∙ e), place-part a s (get_or starts i 0) within, length-take a s);
  }

  pub fillable-part : (n : ℕ) (table : List Record) → Fillable (take a s) starts n table → Fillable s starts n table
  fillable-part n table x = record { room = x.room; stands = λ i l. stands-part i (x.stands i l) }

  pub gathered-part : (n : ℕ) (table : List Record) → ((i : ℕ) → i < n → Stands (take a s) starts i) → gathered s starts n table ≡ gathered (take a s) starts n table
  unfolding gathered
  gathered-part zero table stands = refl
  gathered-part (suc n) table stands =
      ap (λ (l : List Record). set l n (row_in s starts n)) (gathered-part n table (λ i h. stands i (omega arith)))
      ∙ ap (set (gathered (take a s) starts n table) n) (row_is s starts n ∙ sym (row_is (take a s) starts n ∙ ap record_of (entry-part a s (get_or starts n 0) (get_or starts (suc n) 0) (in-part n (stands n (omega arith))) (parent-in-part n (stands n (omega arith))))))

-- what reading answers says how many entries are filled
pub outcome-counts : (r : Result ℕ Refusal) → (answer_of r).number ≡ 0 → records_in r ≡ (answer_of r).value
outcome-counts (Ok n) z = refl
outcome-counts (Err r) z = absurd (refused-number r z)

pub outcome-none : (r : Result ℕ Refusal) → ((answer_of r).number ≡ 0 → ⊥) → records_in r ≡ 0
outcome-none (Ok n) z = absurd (z refl)
outcome-none (Err r) z = refl

pub read-gathers : (p starts : List ℕ) (n : ℕ) (r : Result ℕ Refusal) (table : List Record) → answer_of r ≡ read_of p (length table) → n ≡ records_in r → Listed p (length table) starts
    → Gathers p starts n table
read-gathers p starts n r table e count listed =
    listed-gathers p starts n table listed
    (λ z. count ∙ outcome-counts r (ap (λ (a : Answer). a.number) e ∙ z) ∙ ap (λ (a : Answer). a.value) e)
    (λ z. count ∙ outcome-none r (λ y. z (sym (ap (λ (a : Answer). a.number) e) ∙ y)))
