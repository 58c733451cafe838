-- `naming::RecordList::is_at` meets its contract: a kind's number is not 0.
use mathlib.Core.Path.{◌≡◌, refl, ap, ◌∙◌}
use mathlib.Core.Bool.{false}
use Prim.Native.Nat.{ℕ, ◌-◌}
use native.Mathlib.Omega.{arith}
use lib.Dec.{eqb}
use Rattle.records.specs.Layout.{kind_code}
use Rattle.records.specs.declared.Kind.{Kind}
use Rattle.records.specs.declared.Kind.TheVariants.{Dvc, Det, Dpd, Dpt, Dvp}
use Rattle.pool.proofs.Starts.{starts-marked}
use Rattle.naming.specs.Naming.{kind_of}
use Rattle.naming.specs.Entries.{entries_in}
use Rattle.naming.proofs.Starts.{kind-read}
use Rattle.naming.proofs.RecordList.is_at.Goals as goal

none-of : (k : Kind) → false ≡ eqb 0 (kind_code k)
none-of Dvc = refl
none-of Det = refl
none-of Dpd = refl
none-of Dpt = refl
none-of Dvp = refl

pub returns-then-number-eq0 : goal.returns-then-number-eq0
returns-then-number-eq0 c = rw c.if-number-eq0.true (none-of c.args.kind)

pub kind_number-requires : goal.kind_number-requires
kind_number-requires c =
    starts-marked c.args.self.now.pool.now c.args.self.now.starts.now c.args.self.now.divided (c.args.number - 1) (omega (arith, c.requires, c.if-number-eq0.false))

pub returns : goal.returns
returns c =
    let a = c.args in
    ap (λ (x : ℕ). eqb x c.from.result) (c.kind_number.ensures ∙ kind-read a.self.now.pool.now a.self.now.starts.now a.number c.if-number-eq0.false c.requires)
    ∙ ap (eqb (kind_of (entries_in a.self.now) a.number)) c.from.ensures
