-- A kind's number tells it. Assumes nothing.
use mathlib.Core.Path.{◌≡◌, refl, sym, ap, ◌∙◌}
use mathlib.Core.Bool.{cond}
use Prim.Native.Nat.{ℕ}
use lib.Dec.{eqb}
use Rattle.records.specs.Layout.{kind_code}
use Rattle.records.specs.declared.Kind.{Kind}
use Rattle.records.specs.declared.Kind.TheVariants.{Dvc, Det, Dpd, Dpt, Dvp}

-- the kind with a number
abbrev numbered : ℕ → Kind
numbered n = cond (eqb n 1) Dvc (cond (eqb n 2) Det (cond (eqb n 3) Dpd (cond (eqb n 4) Dpt Dvp)))

numbered-code : (k : Kind) → numbered (kind_code k) ≡ k
numbered-code Dvc = refl
numbered-code Det = refl
numbered-code Dpd = refl
numbered-code Dpt = refl
numbered-code Dvp = refl

pub code-tells : (k l : Kind) → kind_code k ≡ kind_code l → k ≡ l
code-tells k l e = sym (numbered-code k) ∙ ap numbered e ∙ numbered-code l
