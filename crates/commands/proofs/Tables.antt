-- The table after judging a command: if it is filled with the records that judging counts and lists, it is as the definition says. Assumes
-- nothing.
use mathlib.Core.Path.{◌≡◌, ap, ◌∙◌}
use mathlib.Core.List.{List}
use Prim.Native.Nat.{ℕ, ◌≤◌, ◌<◌}
use native.Mathlib.Decide.{dec_lt}
use native.Mathlib.Omega.{arith}
use borrow.Author.Tests.{lt-ltb, le-ltb}
use lib.ListN.{length}
use Rattle.pool.specs.Walk.{Listed}
use Rattle.working_table.specs.Rows.{gathered, Fillable}
use Rattle.working_table.specs.declared.Record.{Record}
use Rattle.working_table.proofs.Gathered.{gathered_none, none-fillable}
use Rattle.checker.proofs.Tables.{check-gathers}
use Rattle.judging.specs.Parts.{judged_count}
use Rattle.commands.specs.Tables.{records_judged}

pub record GathersFor (p starts : List ℕ) (n : ℕ) (table : List Record) (element : ℕ) : Type 0 where
  pub fillable : Fillable p starts n table
  pub after : gathered p starts n table ≡ records_judged p table element

pub judged-gathers : (p starts : List ℕ) (n : ℕ) (table : List Record) (element : ℕ) → (element ≤ 4095 → Listed p (length table) starts) → n ≡ judged_count p (length table) element → GathersFor p starts n table element
unfolding judged_count records_judged
judged-gathers p starts n table element listed e = go (dec_lt 4095 element)
  where
    go : Dec (4095 < element) → GathersFor p starts n table element
    go (yes h) =
        let none : n ≡ 0 = e ∙ rw (lt-ltb 4095 element h) in
        record { fillable = none-fillable p starts n table none; after = rw (lt-ltb 4095 element h) (ap (λ (k : ℕ). gathered p starts k table) none ∙ gathered_none p starts table) }
    go (no h) =
        let small : element ≤ 4095 = omega arith in
        let g = check-gathers p starts n table (listed small) (e ∙ rw (le-ltb 4095 element small)) in
        record { fillable = g.fillable; after = rw (le-ltb 4095 element small) g.after }
