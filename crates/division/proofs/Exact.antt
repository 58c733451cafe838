-- The extent of a record says exactly what its bytes are. Assumes nothing.
use mathlib.Core.Path.{◌≡◌, refl, sym, ap, ◌∙◌, subst}
use mathlib.Core.List.{List, ◌++◌}
use Prim.Native.Nat.{ℕ, ◌+◌, ◌≤◌}
use native.Mathlib.Omega.{arith}
use lib.ListN.{length, take, drop, take-append-drop}
use lib.Seq.{length-take-le}
use Rattle.std.specs.Prelude.{Result, Ok, Err}
use Rattle.records.specs.Extents.{extent_of}
use Rattle.records.specs.declared.Flaw.{Flaw}
use Rattle.records.specs.declared.Flaw.TheVariants.{NoMark, Cut, LengthOver}
use Rattle.division.specs.Bad.{Unmarked, CutShort, OverLimit}
use Rattle.division.specs.Claims.{Begins, Exactly}
use Rattle.division.proofs.Records.{Seen, begins, unmarked, short, over, seen, whole-ends, unmarked-refused, cut-refused, over-refused}

module _ (p : List ℕ) (at : ℕ) where
  -- what an extent says of the bytes from the place on
  abbrev Says : Result ℕ Flaw → Type 0
  Says (Ok end) = Begins p at end
  Says (Err NoMark) = Unmarked (drop at p)
  Says (Err Cut) = CutShort (drop at p)
  Says (Err (LengthOver q)) = (place : ℕ) × (q ≡ at + place) × OverLimit (drop at p) place

module _ (p : List ℕ) (at : ℕ) (within : at ≤ length p) where
  -- a law of what is read behind other bytes holds at a place of a pool
  at_place : (s : List ℕ) (e : ℕ → Result ℕ Flaw) → drop at p ≡ s → ((pre : List ℕ) → extent_of (pre ++ s) (length pre) ≡ e (length pre)) → extent_of p at ≡ e at
  at_place s e q law =
      let n : length (take at p) ≡ at = length-take-le at p within in
      let t : take at p ++ s ≡ p = ap (λ (l : List ℕ). take at p ++ l) (sym q) ∙ take-append-drop at p in
      rw (t, n) at (law (take at p))

  pub begins-ends : (end : ℕ) → Begins p at end → extent_of p at ≡ Ok end
  begins-ends end b =
      rw b.4 (at_place (b.0 ++ b.1) (λ n. Ok (n + length b.0)) b.2 (λ pre. whole-ends b.0 pre b.1 b.3))

  unmarked-none : Unmarked (drop at p) → extent_of p at ≡ Err NoMark
  unmarked-none u = at_place (drop at p) (λ n. Err NoMark) refl (λ pre. unmarked-refused (drop at p) pre u)

  short_cut : CutShort (drop at p) → extent_of p at ≡ Err Cut
  short_cut c = at_place (drop at p) (λ n. Err Cut) refl (λ pre. cut-refused (drop at p) pre c)

  over-over : (place : ℕ) → OverLimit (drop at p) place → extent_of p at ≡ Err (LengthOver (at + place))
  over-over place w = at_place (drop at p) (λ n. Err (LengthOver (n + place))) refl (λ pre. over-refused (drop at p) pre place w)

  -- one of the four holds of any bytes, and its extent is the one that is read
  said : Says p at (extent_of p at)
  said = go (seen (drop at p))
    where
      go : Seen (drop at p) → Says p at (extent_of p at)
      go (begins r rest e w) = let b : Begins p at (at + length r) = (r, rest, e, w, refl) in rw (begins-ends (at + length r) b) b
      go (unmarked u) = rw (unmarked-none u) u
      go (short c) = rw (short_cut c) c
      go (over place w) = rw (over-over place w) (place, refl, w)

  pub exactly : Exactly p at
  exactly =
      record {
        ends = λ end. (λ e. subst (Says p at) e said, begins-ends end);
        unmarked = (λ e. subst (Says p at) e said, unmarked-none);
        cut = (λ e. subst (Says p at) e said, short_cut);
        over = λ place. (λ e. let (q, s, w) = subst (Says p at) e said in let h : q ≡ place = omega arith in rw h at w, over-over place);
      }
