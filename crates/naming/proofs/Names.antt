-- What the lists say about the records of a list of starts. Assumes nothing.
use mathlib.Core.Path.{◌≡◌, sym, ap, ◌∙◌}
use mathlib.Core.Bool.{not}
use Prim.Native.Nat.{ℕ, suc, ◌+◌, ◌-◌, ◌≤◌, ◌<◌}
use native.Mathlib.Numerals.{add-one}
use native.Mathlib.Omega.{arith}
use lib.Dec.{eqb}
use lib.ListN.{length, get_or}
use Rattle.pool.proofs.Starts.{starts-few}
use Rattle.naming.specs.declared.RecordList.{RecordList}
use Rattle.naming.specs.declared.NamedRecords.{NamedRecords}
use Rattle.naming.specs.Records.{id_at}
use Rattle.naming.specs.Naming.{first_of, named}
use Rattle.naming.specs.Lists.{id_in}
use Rattle.naming.specs.Chained.{Names}
use Rattle.naming.specs.Entries.{entries_in}
use Rattle.naming.proofs.Starts.{id-read, first_read, named-listed}
use Rattle.naming.proofs.Chained.{opens-first, unmarked}

module _ (records : RecordList) where
  -- there is a start, and not too many for a number of 16 bits
  pub records-some : 0 < length records.starts.now
  records-some = records.divided.some

  pub records-few : length records.starts.now ≤ 5462
  records-few = starts-few records.pool.now records.starts.now records.divided

module _ (names : NamedRecords) where
  pub names-some : 0 < length names.records.starts.now
  names-some = records-some names.records

  pub names-few : length names.records.starts.now ≤ 5462
  names-few = records-few names.records

  -- the links reach for every record
  pub names-room : length names.records.starts.now ≤ length names.next.now
  unfolding Names
  names-room = names.linked.room

  -- a record that an ID names is listed
  pub named-inside : (x : ℕ) → named (entries_in names.records) x < length names.records.starts.now
  named-inside x = named-listed names.records.pool.now names.records.starts.now x names-some

  -- a record whose link is the mark has the ID of an earlier one
  pub first-unmarked : (i : ℕ) → suc i < length names.records.starts.now
      → eqb (get_or names.next.now (i + 1) 0) 65535 ≡ not (eqb (first_of (id_at (entries_in names.records)) (id_at (entries_in names.records) i) (length (entries_in names.records))) (suc i))
  unfolding Names
  first-unmarked i l =
      let p = names.records.pool.now in
      let starts = names.records.starts.now in
      let es = entries_in names.records in
      let inside : i < length starts - 1 = omega arith in
      rw (add-one i)
      (unmarked (id_in p starts) (length starts - 1) names.heads.now names.next.now names.linked.chained (omega (arith, names-few)) i inside
      ∙ ap not
      (opens-first (id_in p starts) i (length starts - 1) inside
      ∙ ap (λ (x : ℕ). eqb (first_of (id_in p starts) x (length starts - 1)) (suc i)) (sym (id-read p starts i l))
      ∙ ap (λ (f : ℕ). eqb f (suc i)) (first_read p starts (id_at es i))))
