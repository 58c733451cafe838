-- The table after reading, by the division alone. Assumes nothing.
use mathlib.Core.Path.{◌≡◌, refl, ap, ◌∙◌}
use mathlib.Core.Bool.{Bool, true, false, cond}
use mathlib.Core.Logic.{◌↔◌}
use mathlib.Core.List.{List, [], ◌∷◌, map}
use Prim.Native.Nat.{ℕ, suc, ◌≤◌}
use native.Mathlib.Omega.{arith}
use native.Mathlib.Nat.{zero-add}
use borrow.Author.Tests.{eqb-true}
use lib.Dec.{eqb}
use lib.ListN.{length}
use lib.Seq.{sets, sets-eq}
use Rattle.division.specs.Division.{Division, Divides}
use Rattle.pool.proofs.Judged.{as_read}
use Rattle.pool.specs.Answer.{answer}
use Rattle.pool.specs.Reading.{Entry, read_of, scan_of, entries_in}
use Rattle.working_table.specs.declared.Record.{Record}
use Rattle.working_table.specs.Table.{record_of, records_after}
use Rattle.claims.specs.Reads.{listed, Sized, Filled}
use Rattle.claims.proofs.Sorting.{listed-length}

mapped : (es : List Entry) → length (map record_of es) ≡ length es
mapped [] = refl
mapped (e ∷ es) = ap suc (mapped es)

module _ (p : List ℕ) (table : List Record)
    (reads : (n : ℕ) → (read_of p (length table) ≡ answer 0 n) ↔ (Sized p × ((d : Divides p) × (length d.parts ≡ n) × (n ≤ length table))))
    (entries : (rs : List (List ℕ)) (d : Division p rs) → entries_in (scan_of p) ≡ listed rs d.whole 0) where
  as_it_was : ((d : Divides p) → Sized p → length d.parts ≤ length table → ⊥) → (t : Bool) → eqb (read_of p (length table)).number 0 ≡ t
      → cond t (sets table 0 (map record_of (entries_in (scan_of p)))) table ≡ table
  as_it_was none false h = refl
  as_it_was none true h =
      let r = (reads (read_of p (length table)).value).0 (as_read (read_of p (length table)) (eqb-true (read_of p (length table)).number 0 h)) in
      absurd (none r.1.0 r.0 (omega (arith, r.1.1, r.1.2)))

  pub filled : Filled p table (records_after p table)
  unfolding records_after
  filled =
      record {
        read = λ rs d sized fits. (
            let n : read_of p (length table) ≡ answer 0 (length rs) = (reads (length rs)).1 (sized, (record { parts = rs; division = d }, refl, fits)) in
            let l : length (map record_of (listed rs d.whole 0)) ≡ length rs = mapped (listed rs d.whole 0) ∙ listed-length rs d.whole 0 in
            rw (n, entries rs d) (sets-eq (map record_of (listed rs d.whole 0)) table 0 (omega (arith, l, fits)) ∙ rw (zero-add (length (map record_of (listed rs d.whole 0))), l)));
        stays = λ none. as_it_was none (eqb (read_of p (length table)).number 0) refl;
      }
