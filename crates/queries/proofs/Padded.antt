-- Labels are copied over zeros. Assumes nothing.
use mathlib.Core.Path.{◌≡◌, refl, ap, ◌∙◌}
use mathlib.Core.List.{List, [], ◌∷◌}
use Prim.Native.Nat.{ℕ, zero, suc, ◌+◌, ◌-◌, ◌≤◌}
use native.Mathlib.Nat.{zero-sub, sub-zero, suc-sub-suc}
use native.Mathlib.Omega.{arith}
use borrow.Author.Tests.{le-leb}
use lib.ListN.{length, get_or, take, drop, replicate, length-replicate}
use lib.Seq.{sets-eq}
use Rattle.wire.specs.Bytes.{laid}
use Rattle.wire.proofs.Laid.{laid-fits}
use Rattle.records.specs.Places.{field_at}
use Rattle.records.specs.declared.Kind.TheVariants.{Dvc}
use Rattle.records.specs.declared.Span.{Span}
use Rattle.views.specs.Fields.{part_of, device_of}
use Rattle.queries.specs.Queries.{padded}

zeros-left : (w n : ℕ) → drop {A = ℕ} n (replicate w 0) ≡ replicate (w - n) 0
zeros-left zero zero = refl
zeros-left zero (suc n) = rw (zero-sub (suc n))
zeros-left (suc w) zero = rw (sub-zero (suc w))
zeros-left (suc w) (suc n) = rw (suc-sub-suc w n) (zeros-left w n)

laid-padded : (w : ℕ) (t : List ℕ) → length t ≤ w → laid (replicate w 0) 0 t ≡ padded w t
laid-padded w t h =
    let long : 0 + length t ≤ length {A = ℕ} (replicate w 0) = omega (arith, length-replicate {A = ℕ} w 0) in
    let none : 0 + length t ≡ length t = omega arith in
    laid-fits (replicate w 0) 0 t (le-leb (0 + length t) (length {A = ℕ} (replicate w 0)) long)
    ∙ sets-eq t (replicate w 0) 0 long
    ∙ rw (none, zeros-left w (length t))

-- a label that has been copied out of the pool
pub copied : (w : ℕ) (p : List ℕ) (s given : Span) (t d : List ℕ) → given ≡ s → t ≡ part_of p given → d ≡ laid (replicate w 0) 0 t → length (part_of p s) ≤ w → d ≡ padded w (part_of p s)
copied w p s given t d g e l h =
    let same : t ≡ part_of p s = e ∙ ap (part_of p) g in
    l ∙ ap (laid (replicate w 0) 0) same ∙ laid-padded w (part_of p s) h

taken-long : (n : ℕ) (l : List ℕ) → length (take n l) ≤ n
taken-long zero l = omega arith
taken-long (suc n) [] = omega arith
taken-long (suc n) (x ∷ l) = omega (arith, taken-long n l)

span-long : (p : List ℕ) (at n : ℕ) → length (part_of p (record { from = at; to = at + n })) ≤ n
span-long p at n = omega (arith, taken-long (at + n - at) (drop at p))

pub structure-long : (p : List ℕ) (at : ℕ) → length (part_of p (device_of p at).structure) ≤ 7
unfolding device_of
structure-long p at = span-long p (field_at Dvc 5 p at) 7

pub localization-long : (p : List ℕ) (at : ℕ) → length (part_of p (device_of p at).localization) ≤ 7
unfolding device_of
localization-long p at = span-long p (field_at Dvc 6 p at) 7

pub extended-long : (p : List ℕ) (at : ℕ) → get_or p (field_at Dvc 7 p at) 0 ≤ 32 → length (part_of p (device_of p at).extended) ≤ 32
unfolding device_of
extended-long p at h = omega (arith, span-long p (field_at Dvc 7 p at + 1) (get_or p (field_at Dvc 7 p at) 0))
