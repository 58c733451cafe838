-- A displayed value as a C caller gets it. Definitions only.
use Rattle.std.specs.Prelude.{ℕ, ℤ, Float}
use Rattle.presentation.specs.Display.{Shown}
use Rattle.presentation.specs.declared.Presentation.{Presentation}

-- the presentation that the three arguments make up
abbrev pub presented : ℤ → Float → ℕ → Presentation
presented offset scale decimals = record { offset = offset; scale = scale; decimals = decimals }

-- the result and the lent f64 are the number and the value of the answer
abbrev pub Shows : ℤ → Presentation → ℕ → Float → Type 0
Shows v p result lent = Shown v p (record { number = result; value = lent })
