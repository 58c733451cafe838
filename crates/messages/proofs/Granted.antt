-- What is known where a test of what is to be written has granted it. Assumes nothing.
use mathlib.Core.Path.{◌≡◌, refl}
use mathlib.Core.Bool.{Bool, true, false, cond}
use Prim.Native.Nat.{ℕ}
use native.Mathlib.Omega.{arith}
use Rattle.std.specs.Prelude.{Result, Ok, Err}
use Rattle.messages.specs.declared.Unwritten.{Unwritten}
use Rattle.messages.specs.declared.Unwritten.TheVariants.{TooLarge}

-- a number that its field holds
pub is-held : (b : Bool) (x y : ℕ) → ◌≡◌ {A = Result ℕ Unwritten} (Ok y) (cond b (Err TooLarge) (Ok x)) → (b ≡ false) × (y ≡ x)
is-held true x y e = absurd cc
is-held false x y e = (refl, (cc))

pub has-room : (b : Bool) → ◌≡◌ {A = ℕ} 0 (cond b 33 0) → b ≡ false
has-room true e = absurd (omega arith)
has-room false e = refl
