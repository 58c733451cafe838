-- The table after checking: filled with the records that checking counts and lists, it is the table after reading. Assumes
-- nothing.
use mathlib.Core.Path.{◌≡◌, ◌∙◌}
use mathlib.Core.List.{List}
use Prim.Native.Nat.{ℕ}
use borrow.Author.Tests.{eq-eqb, ne_eqb}
use lib.ListN.{length}
use Rattle.pool.specs.Reading.{read_of}
use Rattle.pool.specs.Walk.{Listed}
use Rattle.working_table.specs.declared.Record.{Record}
use Rattle.working_table.proofs.Gathered.{Gathers, listed-gathers}
use Rattle.checker.specs.Checking.{count_of}

pub check-gathers : (p starts : List ℕ) (n : ℕ) (table : List Record) → Listed p (length table) starts → n ≡ count_of p (length table) → Gathers p starts n table
unfolding count_of
check-gathers p starts n table listed e =
    listed-gathers p starts n table listed (λ z. e ∙ rw (eq-eqb (read_of p (length table)).number 0 z)) (λ z. e ∙ rw (ne_eqb (read_of p (length table)).number 0 z))
