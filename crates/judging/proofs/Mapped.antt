-- What `find_map` over the numbers below n gives, where its closure changes nothing. Assumes nothing.
use mathlib.Core.Path.{◌≡◌, ap, subst, ◌∙◌}
use mathlib.Core.Bool.{true}
use Prim.Native.Nat.{ℕ, ◌+◌, ◌<◌}
use native.Mathlib.Omega.{arith}
use denote.Param.Members.{Mut}
use Rattle.std.specs.Prelude.{Option, None, Some}
use Rattle.std.specs.declared.ops.Range.{Range}
use Rattle.std.specs.Fn.{Called}
use Rattle.std.specs.Option.{MatchOption, IfSome, IsSomeAnd, option_map}
use Rattle.std.specs.Iterator.Runs.{SomeRun, AllItemsGive, IsFirstToGive, CallKeepsClosure, ItemsCountUp}
use Rattle.std.proofs.iter.Yields.{nat_range_steps}
use Rattle.std.proofs.iter.runs.Sources.{range_runs}

-- what holds of an item that is there holds of what it is
there : (o : Option ℕ) (k : ℕ) (P : ℕ → Type 0) → option_map (λ y. y) o ≡ Some k → IfSome o P → P k
there None k P e h = cc
there (Some x) k P e h = let same : x ≡ k = cc in subst P same h

some-there : (o : Option ℕ) (P : ℕ → Type 0) → IsSomeAnd o P → IfSome o P
some-there None P h = absurd h
some-there (Some x) P h = h

module _ {F : Type 0} (g : Mut F (ℕ × Unit {0}) (Option ℕ)) (f : F) (n : ℕ) (Yes : ℕ → ℕ → Type 0) (No : ℕ → Type 0) where
  abbrev Ran : Option ℕ → Type 0
  Ran r =
      SomeRun nat_range_steps (record { start = 0; end = n })
      (λ p. MatchOption r ((p.whole ≡ true) × AllItemsGive p g f None) (λ y. (i : ℕ) × (i < p.len) × (p.len ≡ i + 1) × IsFirstToGive p g f (Some y) None i))

  abbrev Gave : Option ℕ → ℕ → Type 0
  Gave r m = Called g f (m, tt) r f

  -- a call at m that gives y shows Yes m y, and one that gives nothing No m
  pub first-given : (r : Option ℕ) → Ran r → CallKeepsClosure g f → ((m y : ℕ) → Gave (Some y) m → Yes m y) → ((m : ℕ) → Gave None m → No m)
      → MatchOption r ((m : ℕ) → m < n → No m) (λ y. (m : ℕ) × (m < n) × Yes m y × ((k : ℕ) → k < m → No k))
  first-given r (p, same, d) keeps shows lacks = go r d
    where
      counts : ItemsCountUp p 0 n
      counts = subst (λ (s : Range ℕ). ItemsCountUp p s.start s.end) same (range_runs p p.seen)

      item : (k : ℕ) → k < p.len → (P : ℕ → Type 0) → IfSome (p.at k) P → P k
      item k l P h = let zero : 0 + k ≡ k = omega arith in there (p.at k) k P (counts.3 k l ∙ ap Some zero) h

      go : (o : Option ℕ) → MatchOption o ((p.whole ≡ true) × AllItemsGive p g f None) (λ y. (i : ℕ) × (i < p.len) × (p.len ≡ i + 1) × IsFirstToGive p g f (Some y) None i)
          → MatchOption o ((m : ℕ) → m < n → No m) (λ y. (m : ℕ) × (m < n) × Yes m y × ((k : ℕ) → k < m → No k))
      go None d = λ m l. lacks m (item m (omega (arith, counts.1 d.0)) (Gave None) (d.1 keeps m))
      go (Some y) d =
          let given = d.3 keeps in (
            d.0,
            omega (arith, counts.0, d.1),
            shows d.0 y (item d.0 d.1 (Gave (Some y)) (some-there (p.at d.0) (Gave (Some y)) given.0)),
            λ k l. lacks k (item k (omega (arith, d.1, l)) (Gave None) (some-there (p.at k) (Gave None) (given.1 k l))),
          )
