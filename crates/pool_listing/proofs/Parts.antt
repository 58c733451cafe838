-- Parts written one after the other. Assumes nothing.
use mathlib.Core.Path.{◌≡◌, refl, ap, subst, ◌∙◌}
use mathlib.Core.List.{List, [], ◌++◌}
use Prim.Native.Nat.{ℕ, ◌+◌, ◌≤◌}
use native.Mathlib.Omega.{arith}
use borrow.Author.Tests.{le-leb}
use lib.ListN.{length, length-append}
use lib.Seq.{sets}
use Rattle.wire.specs.Bytes.{laid}
use Rattle.wire.proofs.Laid.{laid-fits, sets_behind}
use Rattle.decimal.specs.Digits.{place_after}
use Rattle.decimal.proofs.Places.{after-fits}
use Rattle.pool_listing.specs.Parts.{Adds}

pub adds_none : (out : List ℕ) (at : ℕ) → Adds out at [] out at
adds_none out at = record { laid = refl; place = omega arith }

pub adds_then : {o₀ o₁ o₂ : List ℕ} {at r₁ r₂ : ℕ} (xs ys : List ℕ) → Adds o₀ at xs o₁ r₁ → Adds o₁ r₁ ys o₂ r₂ → Adds o₀ at (xs ++ ys) o₂ r₂
adds_then {o₀} {o₁} {o₂} {at} {r₁} {r₂} xs ys a b = record {
  laid = b.laid ∙ ap (λ (o : List ℕ). sets o r₁ ys) a.laid ∙ ap (λ (k : ℕ). sets (sets o₀ at xs) k ys) a.place ∙ sets_behind xs ys o₀ at;
  place = let l = length-append xs ys in omega (arith, a.place, b.place);
}

pub adds_same : {o₀ o₁ : List ℕ} {at r : ℕ} {xs ys : List ℕ} → xs ≡ ys → Adds o₀ at xs o₁ r → Adds o₀ at ys o₁ r
adds_same {o₀} {o₁} {at} {r} e a = subst (λ (l : List ℕ). Adds o₀ at l o₁ r) e a

-- a line that fits
pub line-adds : (d : List ℕ) (at : ℕ) (bs : List ℕ) {after : List ℕ} {next : ℕ} → at + length bs ≤ length d → (after ≡ laid d at bs) × (next ≡ place_after d at bs) → Adds d at bs after next
line-adds d at bs room e =
    let fits = le-leb (at + length bs) (length d) room in
    record { laid = e.0 ∙ laid-fits d at bs fits; place = e.1 ∙ after-fits d at bs fits }
