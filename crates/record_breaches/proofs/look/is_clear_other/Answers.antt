-- `record_breaches::look::is_clear_other` meets its contract.
use mathlib.Core.Path.{refl, ap}
use mathlib.Core.Logic.{inl, inr}
use Rattle.records.specs.Layout.{kind_code}
use Rattle.record_breaches.proofs.look.is_clear_other.Goals as goal

pub is_clear_presented-requires : goal.is_clear_presented-requires
is_clear_presented-requires c = inl (ap kind_code c.in-Dpd.is, refl)

pub is_clear_presented-requires-in-Dpt : goal.is_clear_presented-requires-in-Dpt
is_clear_presented-requires-in-Dpt c = inr (ap kind_code c.in-Dpt.is, refl)

pub is_clear_value-requires : goal.is_clear_value-requires
is_clear_value-requires c = ap kind_code c.in-Dvp.is

pub returns-in-Dpd : goal.returns-in-Dpd
returns-in-Dpd c t = c.is_clear_presented.ensures t

pub returns-in-Dpt : goal.returns-in-Dpt
returns-in-Dpt c t = c.is_clear_presented-in-Dpt.ensures t

pub returns-in-Dvp : goal.returns-in-Dvp
returns-in-Dvp c t = c.is_clear_value.ensures t
