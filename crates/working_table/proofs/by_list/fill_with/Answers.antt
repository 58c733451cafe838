-- `working_table::by_list::fill_with`: the list of zeros is long enough for the core, and what the core leaves there fills the table.
use Rattle.std.proofs.Common.{ℕ, refl, arith}
use Rattle.std.proofs.Math.ListN.{length-replicate}
use Rattle.working_table.proofs.by_list.fill_with.Goals as goal

pub gather-requires : goal.gather-requires
gather-requires g c =
    c.requires.fillable _ _ _
    (λ h. omega (arith, c.requires.long h, length-replicate {A = ℕ} g.row.N 0))
    (record { shown = _; shows = refl; left = _; met = c.core-counted.ensures; leaves = refl })

pub returns : goal.returns
returns g c = (
  _,
  _,
  _,
  λ h. omega (arith, c.requires.long h, length-replicate {A = ℕ} g.row.N 0),
  record { shown = _; shows = refl; left = _; met = c.core-counted.ensures; leaves = refl },
  refl,
  c.gather.ensures,
)
