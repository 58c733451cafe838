-- The rows of a record by its kind, and that they are in order. Assumes nothing.
use mathlib.Core.Path.{◌≡◌, refl}
use mathlib.Core.Bool.{Bool, true, false, cond}
use mathlib.Core.List.{List, [], ◌++◌}
use Prim.Native.Nat.{ℕ, zero, suc}
use borrow.Author.Tests.{eqb-true}
use lib.Dec.{eqb}
use lib.ListN.{length}
use Rattle.records.specs.Layout.{kind_code}
use Rattle.records.specs.declared.Kind.{Kind}
use Rattle.records.specs.declared.Kind.TheVariants.{Dvc, Det, Dpd, Dpt, Dvp}
use Rattle.views.specs.Fields.{device_of, element_of, process_data_of, property_of, presentation_of}
use Rattle.faults.specs.Rows.{Row, in_order}
use Rattle.pool.specs.Reading.{Entry}
use Rattle.naming.specs.Records.{start_at, id_at, kind_at}
use Rattle.rules.specs.Breach.{Is}
use Rattle.rules.specs.Table.{repeats, bad_own, own_rows, device_rows, element_rows, data_rows, property_rows, value_rows, presented_rows, kind_rows, rows_of}

-- rules 1 and 2 of record i
abbrev pub own_of : List Entry → ℕ → List Row
own_of es i = own_rows (bad_own (kind_at es i) (id_at es i)) (repeats (id_at es) (id_at es i) i (length es))

-- the rows behind rules 1 and 2, by the kind
abbrev pub rows_as : Kind → List ℕ → List Entry → ℕ → List Row
rows_as Dvc p es i = device_rows p (repeats (kind_at es) 1 i (length es)) (device_of p (start_at es i))
rows_as Det p es i = element_rows p es i (element_of p (start_at es i))
rows_as Dpd p es i = data_rows p (process_data_of p (start_at es i)) ++ presented_rows es (process_data_of p (start_at es i)).presentation
rows_as Dpt p es i = property_rows p (property_of p (start_at es i)) ++ presented_rows es (property_of p (start_at es i)).presentation
rows_as Dvp p es i = value_rows p (presentation_of p (start_at es i))

-- what holds of whichever is picked
whichever : (P : List Row → Type 0) (t : Bool) (a b : List Row) → (t ≡ true → P a) → P b → P (cond t a b)
whichever P true a b h g = h refl
whichever P false a b h g = g

module _ (p : List ℕ) (es : List Entry) (i : ℕ) where
  -- what holds of the rows of each kind, and of none, holds of the record's
  pub by_kind : (P : List Row → Type 0) → ((k : Kind) → kind_at es i ≡ kind_code k → P (rows_as k p es i)) → P [] → P (kind_rows p es i (kind_at es i))
  unfolding kind_rows
  by_kind P h none =
      let n = kind_at es i in
      whichever P (eqb n 1) (rows_as Dvc p es i) _ (λ e. h Dvc (eqb-true n 1 e))
      (whichever P (eqb n 2) (rows_as Det p es i) _ (λ e. h Det (eqb-true n 2 e))
      (whichever P (eqb n 3) (rows_as Dpd p es i) _ (λ e. h Dpd (eqb-true n 3 e))
      (whichever P (eqb n 4) (rows_as Dpt p es i) _ (λ e. h Dpt (eqb-true n 4 e))
      (whichever P (eqb n 5) (rows_as Dvp p es i) [] (λ e. h Dvp (eqb-true n 5 e)) none))))

  pub as-kind : (k : Kind) → Is es k i → kind_rows p es i (kind_at es i) ≡ rows_as k p es i
  unfolding kind_rows
  as-kind Dvc h = rw h.kind
  as-kind Det h = rw h.kind
  as-kind Dpd h = rw h.kind
  as-kind Dpt h = rw h.kind
  as-kind Dvp h = rw h.kind

  -- the order, kind by kind
  ordered-as : (k : Kind) → in_order (own_of es i ++ rows_as k p es i) ≡ true
  ordered-as Dvc = refl
  ordered-as Det = refl
  ordered-as Dpd = refl
  ordered-as Dpt = refl
  ordered-as Dvp = refl

pub ordered : (p : List ℕ) (es : List Entry) (r : ℕ) → in_order (rows_of p es r) ≡ true
ordered p es zero = refl
ordered p es (suc i) = by_kind p es i (λ (ws : List Row). in_order (own_of es i ++ ws) ≡ true) (λ k e. ordered-as p es i k) refl
