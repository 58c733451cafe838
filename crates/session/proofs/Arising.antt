-- What holds of a session value that is not impossible. Assumes nothing.
use mathlib.Core.List.{List, [], ◌∷◌}
use mathlib.Core.Path.{◌≡◌, refl, sym}
use mathlib.Core.Bool.{Bool, true, false, ◌&&◌, ◌||◌, true≢false}
use Prim.Native.Nat.{ℕ, zero, suc, ◌≤◌}
use native.Mathlib.Omega.{arith}
use borrow.Author.Tests.{ltb-false, eqb-false}
use lib.Dec.{eqb, ltb}
use lib.ListN.{length, get_or, take}
use lib.Seq.{length-take-le}
use Rattle.wire.proofs.Either.{neither}
use Rattle.session.specs.Calls.{is_offered, any_of, causes, impossible}
use Rattle.session.specs.declared.Session.{Session}

not-both : (a b : Bool) → (a && b) ≡ false → a ≡ true → b ≡ false
not-both true b e q = e
not-both false b e q = absurd (true≢false (sym q))

-- where none of some tests holds, test i does not
none_of : (ts : List Bool) → any_of ts ≡ false → (i : ℕ) → get_or ts i false ≡ false
none_of [] e i = refl
none_of (t ∷ ts) e zero = (neither t (any_of ts) e).0
none_of (t ∷ ts) e (suc i) = none_of ts (neither t (any_of ts) e).1 i

module _ (s : Session) (e : impossible s ≡ false) where
  tests :
      (ltb 65535 s.announced ≡ false) × ((is_offered s && eqb s.announced 0) ≡ false) × (ltb s.announced s.received ≡ false)
  unfolding impossible
  tests = (none_of (causes s) e 2, none_of (causes s) e 4, none_of (causes s) e 5)

  -- no more is received than was announced, which is no more than a pool may have
  pub within : s.received ≤ s.announced
  within = ltb-false s.announced s.received tests.2

  pub small : s.announced ≤ 65535
  small = ltb-false 65535 s.announced tests.0

  -- an offer announces something
  pub some : is_offered s ≡ true → 1 ≤ s.announced
  some o = positive s.announced (eqb-false s.announced 0 (not-both (is_offered s) (eqb s.announced 0) tests.1 o))
    where
      positive : (n : ℕ) → (n ≡ 0 → ⊥) → 1 ≤ n
      positive n h = omega arith

-- the pool that is checked: what the areas have room for, of a size that is announced
pub sized : (s : Session) (staging kept : List ℕ) → impossible s ≡ false → is_offered s ≡ true → (ltb (length staging) s.announced || ltb (length kept) s.announced) ≡ false
    → (s.announced ≤ length staging) × (1 ≤ length (take s.announced staging)) × (length (take s.announced staging) ≤ 65535) × (length (take s.announced staging) ≤ length kept)
sized s staging kept e o h =
    let n = neither (ltb (length staging) s.announced) (ltb (length kept) s.announced) h in
    let a : s.announced ≤ length staging = ltb-false (length staging) s.announced n.0 in
    let b : s.announced ≤ length kept = ltb-false (length kept) s.announced n.1 in
    let l : length (take s.announced staging) ≡ s.announced = length-take-le s.announced staging a in
    let m = some s e o in
    let k = small s e in
    (a, omega arith, omega arith, omega arith)
