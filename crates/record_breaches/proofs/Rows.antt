-- The rows of a record: rules 1 and 2, and then those of its kind. Assumes nothing.
use mathlib.Core.Path.{◌≡◌, refl, sym, ◌∙◌}
use mathlib.Core.Bool.{Bool, true, false, not, ◌||◌}
use mathlib.Core.List.{List}
use Prim.Native.Nat.{ℕ, suc, ◌+◌, ◌<◌}
use borrow.Author.Tests.{not-true, eq-eqb, ne_eqb}
use lib.ListN.{length}
use Rattle.faults.specs.Rows.{AllClear}
use Rattle.faults.specs.Adding.{Adds}
use Rattle.faults.specs.declared.FaultList.{FaultList}
use Rattle.faults.proofs.Adding.{adds_then}
use Rattle.pool.specs.Reading.{Entry}
use Rattle.naming.specs.Records.{id_at, kind_at}
use Rattle.naming.specs.Naming.{first_of, named, kind_of}
use Rattle.naming.specs.Chained.{Owned}
use Rattle.rules.specs.Table.{bad_own, repeats, own_rows, presentation_rows, presented_rows, kind_rows, record_rows}
use Rattle.field_rules.proofs.Clearing.{clear_both}

module _ (p : List ℕ) (es : List Entry) (i k : ℕ) (kind-is : k ≡ kind_at es i) (bad again : Bool) (bad-is : bad ≡ bad_own k (id_at es i)) (again-is : again ≡ repeats (id_at es) (id_at es i) i (length es)) where
  pub all-rows : {a b : ℕ} {l m r : FaultList} → Adds (i + 1) (own_rows bad again) a l m → Adds (i + 1) (kind_rows p es i k) b m r
      → Adds (i + 1) (record_rows p es i) (a + b) l r
  all-rows one two = rw (← kind-is, ← bad-is, ← again-is) (adds_then one two)

  pub record-clear : bad || again ≡ false → AllClear (kind_rows p es i k) → AllClear (record_rows p es i)
  record-clear none clear =
      let own = clear_both bad again none in
      rw (← kind-is, ← bad-is, ← again-is) (λ m l. own.0, (λ m l. own.1, clear))

-- one look at rules 1 and 2, and one at the rows of the kind
pub record-looked : (p : List ℕ) (es : List Entry) (i k : ℕ) → k ≡ kind_at es i → not (bad_own k (id_at es i) || repeats (id_at es) (id_at es i) i (length es)) ≡ true → AllClear (kind_rows p es i k) → AllClear (record_rows p es i)
record-looked p es i k kind-is own = record-clear p es i k kind-is (bad_own k (id_at es i)) (repeats (id_at es) (id_at es i) i (length es)) refl refl (not-true _ own)

-- rules 1 and 2 find nothing where all records but devices have IDs of their own
pub owned-clear : (es : List Entry) (i k : ℕ) → Owned es → i < length es → kind_at es i ≡ k → (k ≡ 1 → ⊥) → not (bad_own k (id_at es i) || repeats (id_at es) (id_at es i) i (length es)) ≡ true
unfolding repeats
owned-clear es i k owned l is other =
    let own = owned i l (λ (e : kind_at es i ≡ 1). other (sym is ∙ e)) in
    rw (ne_eqb k 1 other, ne_eqb (id_at es i) 0 own.0, ne_eqb (id_at es i) 65535 own.1, eq-eqb (first_of (id_at es) (id_at es i) (length es)) (suc i) own.2)

-- a presentation by what its ID names
pub presented : (es : List Entry) {n a : ℕ} {l m : FaultList} (x r k : ℕ) → r ≡ named es x → k ≡ kind_of es r → Adds n (presentation_rows x r k) a l m
    → Adds n (presented_rows es x) a l m
presented es x r k e f q = rw (f, e) at q
