-- The records of a division by their number: where each starts, its kind and its ID. Assumes nothing.
use mathlib.Core.Path.{◌≡◌, refl, sym, ap, ◌∙◌}
use mathlib.Core.Logic.{⊎_elim}
use mathlib.Core.List.{List, [], ◌∷◌, ◌++◌, append_assoc, Memᴰ}
use Prim.Native.Nat.{ℕ, zero, suc, ◌+◌, ◌<◌}
use native.Mathlib.Omega.{arith}
use native.Mathlib.Nat.{add-zero, zero-add}
use lib.ListN.{length, get_or, take, drop, length-append}
use lib.Seq.{take_at}
use Rattle.std.specs.Prelude.{Option, Some}
use Rattle.wire.specs.Parts.{joined}
use Rattle.wire.specs.Bytes.{le_of}
use Rattle.records.specs.Layout.{mark, mark_of, kind_code}
use Rattle.records.specs.declared.Kind.{Kind}
use Rattle.division.specs.Whole.{Whole}
use Rattle.division.specs.Division.{AllWhole, Division}
use Rattle.division.specs.Written.{Written, dvc, det, dpd, dpt, dvp}
use Rattle.division.proofs.Marks.{mark-length, mark-of}
use Rattle.division.proofs.Written.{whole-are-written}
use Rattle.pool.specs.Reading.{Entry}
use Rattle.naming.specs.Records.{no_entry, start_at, id_at, kind_at}
use Rattle.claims.specs.Reads.{whole_entry, listed}
use Rattle.claims.proofs.Sorting.{listed-length}
use Rattle.query_claims.specs.Texts.{id_in}

-- ---- one record

pub id-in : {k : Kind} {r : List ℕ} (w : Written k r) → take 2 (drop 3 r) ≡ id_in w
id-in (dvc id d v name s st lo x l1 l2 l3 l4 l5 l6 l7 l8) = take_at id _ 2 l1
id-in (det id type d number parent count list l1 l2 l3 l4 l5 l6 l7) = take_at id _ 2 l1
id-in (dpd id ddi properties triggers d presentation l1 l2 l3 l4 l5 l6) = take_at id _ 2 l1
id-in (dpt id ddi value d presentation l1 l2 l3 l4 l5) = take_at id _ 2 l1
id-in (dvp id offset scale decimals unit l1 l2 l3 l4 l5) = take_at id _ 2 l1

marked-kind : (r : List ℕ) (w : Whole r) → mark_of (take 3 r) ≡ Some w.kind
marked-kind r w = rw (w.marked, take_at (mark w.kind) w.body 3 (mark-length w.kind)) (mark-of w.kind)

-- a record is of one kind
pub one-kind : {r : List ℕ} (v w : Whole r) → v.kind ≡ w.kind
one-kind {r} v w = let same : ◌≡◌ {A = Option Kind} (Some v.kind) (Some w.kind) = sym (marked-kind r v) ∙ marked-kind r w in cc

pub kind-written : {k : Kind} {r : List ℕ} (v : Whole r) → Written k r → v.kind ≡ k
kind-written {k} {r} v w = let u = (whole-are-written k r).1 w in one-kind v u.0 ∙ u.1

pub written-whole : {r : List ℕ} (v : Whole r) → Written v.kind r
written-whole {r} v = (whole-are-written v.kind r).0 (v, refl)

-- ---- a list of records

pub whole-at : (front : List (List ℕ)) (r : List ℕ) (back : List (List ℕ)) → AllWhole (front ++ (r ∷ back)) → Whole r
whole-at [] r back w = w.0
whole-at (f ∷ front) r back w = whole-at front r back w.1

pub joined_at : (front : List (List ℕ)) (r : List ℕ) (back : List (List ℕ)) → joined (front ++ (r ∷ back)) ≡ joined front ++ (r ++ joined back)
joined_at [] r back = refl
joined_at (f ∷ front) r back = ap (λ (l : List ℕ). f ++ l) (joined_at front r back) ∙ sym (append_assoc f (joined front) (r ++ joined back))

listed_at : (front : List (List ℕ)) (r : List ℕ) (back : List (List ℕ)) (w : AllWhole (front ++ (r ∷ back))) (at : ℕ)
    → get_or (listed (front ++ (r ∷ back)) w at) (length front) no_entry ≡ whole_entry r (whole-at front r back w) (at + length (joined front))
unfolding whole-at
listed_at [] r back w at = ap (whole_entry r w.0) (sym (add-zero at))
listed_at (f ∷ front) r back w at =
    listed_at front r back w.1 (at + length f)
    ∙ ap (whole_entry r (whole-at front r back w.1)) (omega (arith, length-append f (joined front)))

-- record number `length front` of a division
pub record Placed (p : List ℕ) (es : List Entry) (i : ℕ) (before r after : List ℕ) : Type 0 where
  pub pool : p ≡ before ++ (r ++ after)
  pub whole : Whole r
  pub there : i < length es
  pub start : start_at es i ≡ length before
  pub kind : kind_at es i ≡ kind_code whole.kind
  pub id : id_at es i ≡ le_of (take 2 (drop 3 r))

pub placed : (p : List ℕ) (front : List (List ℕ)) (r : List ℕ) (back : List (List ℕ)) (d : Division p (front ++ (r ∷ back))) (es : List Entry)
    → es ≡ listed (front ++ (r ∷ back)) d.whole 0 → Placed p es (length front) (joined front) r (joined back)
placed p front r back d es e =
    let a = listed_at front r back d.whole 0 in
    record {
      pool = d.same ∙ joined_at front r back;
      whole = whole-at front r back d.whole;
      there = rw (e, listed-length (front ++ (r ∷ back)) d.whole 0, length-append front (r ∷ back)) (omega arith);
      start = rw e (ap (λ (x : Entry). x.start) a ∙ zero-add (length (joined front)));
      kind = rw e (ap (λ (x : Entry). x.kind) a);
      id = rw e (ap (λ (x : Entry). x.id) a);
    }

-- ---- a place in a list, and a member of it

pub record Split (rs : List (List ℕ)) (j : ℕ) : Type 0 where
  pub front : List (List ℕ)
  pub here : List ℕ
  pub back : List (List ℕ)
  pub same : rs ≡ front ++ (here ∷ back)
  pub count : length front ≡ j
  pub member : Memᴰ here rs

pub split_at : (rs : List (List ℕ)) (j : ℕ) → j < length rs → Split rs j
split_at [] j h = absurd (let z : j < 0 = h in omega arith)
split_at (r ∷ rs) zero h = record { front = []; here = r; back = rs; same = refl; count = refl; member = mathlib.Core.List.Memᴰ.head refl }
split_at (r ∷ rs) (suc j) h =
    let s = split_at rs j (let z : suc j < suc (length rs) = h in omega arith) in
    record { front = r ∷ s.front; here = s.here; back = s.back; same = ap (λ (l : List (List ℕ)). r ∷ l) s.same; count = ap suc s.count; member = mathlib.Core.List.Memᴰ.tail s.member }

pub split-of : (rs : List (List ℕ)) (r : List ℕ) → Memᴰ r rs → (front : List (List ℕ)) × (back : List (List ℕ)) × (rs ≡ front ++ (r ∷ back))
split-of [] r m = absurd (mathlib.Core.List.Memᴰ.not-nil m)
split-of (x ∷ rs) r m =
    ⊎_elim
    (λ (e : r ≡ x). ([], rs, ap (λ (y : List ℕ). y ∷ rs) (sym e)))
    (λ (n : Memᴰ r rs). (let s = split-of rs r n in (x ∷ s.0, s.1, ap (λ (l : List (List ℕ)). x ∷ l) s.2)))
    (mathlib.Core.List.Memᴰ.cases_cons m)
