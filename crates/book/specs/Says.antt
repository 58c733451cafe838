-- A function's contract as plain claims taken from the contract's own terms. `exact` states that the contract's clauses are, in every
-- model of the logic, no `requires` and one `ensures` with that claim, and nothing else: a further clause, a `requires` or a
-- claim that says less makes other terms, which `refl` refuses. Definitions only.
use Rattle.std.specs.Prelude.{◌≡◌}
use seplogic.Ra.Ura.{Ura}
use base.Logic.{SProp, emp}
use prog.Memory.{Memory}
use prog.Routine.{Routine}
use types.Logic.{Logic}
use contract.Lifetimes.{Lfts}
use contract.Monad.{fact, Fun}
use denote.Triple.Clauses.{Ended, Clauses, AtExit}
use borrow.Fn.World.{World, ArgsD, ResD}

-- what a contract promises a caller, as a claim about the arguments, the result and the arguments at the return
abbrev pub Claim : Ended → Type 1
Claim T = (κs : Lfts T.signature.lifetimes) → ArgsD T.signature κs → ResD T.signature κs → AtExit T κs → Type 0

module _ (T : Ended) (c : (M : Type 1) (𝓤 : Ura M) (𝓛 : Logic 𝓤) → (Memory → SProp 𝓤) → (Routine → Fun 𝓤) → Clauses 𝓤 T) where
  -- the contract's clauses in one model of the logic
  abbrev pub at : (w : World) → Clauses w.𝓤 T
  at w = c w.M w.𝓤 w.𝓛 w.𝓜.mem w.𝓡.returns

  -- what the contract promises a caller (`Learnt`), and that this is the whole contract (`exact`)
  pub record Says : Type 2 where
    pub Learnt : (κs : Lfts T.signature.lifetimes) → ArgsD T.signature κs → ResD T.signature κs → AtExit T κs → Type 0
    pub exact : (w : World) → at w ≡ (λ κs a. record { ghost = Unit {0}; requires = λ g. emp w.𝓤; ensures = λ g r s. fact w.𝓤 (Learnt κs a r s) })

  -- that a claim is all that the contract promises, and that it asks nothing: the same for a claim that is given
  abbrev pub Exactly : Claim T → Type 2
  Exactly promises = (w : World) → at w ≡ (λ κs a. record { ghost = Unit {0}; requires = λ g. emp w.𝓤; ensures = λ g r s. fact w.𝓤 (promises κs a r s) })

-- what a contract asks of a caller: nothing, or a claim
pub data Ask : Type 1 where
  nothing : Ask
  claim : Type 0 → Ask

abbrev pub Meaning : Ask → Type 0
Meaning nothing = Unit {0}
Meaning (claim P) = P

-- the clause that asks it, in one model of the logic
abbrev pub clause_of : (w : World) → Ask → SProp w.𝓤
clause_of w nothing = emp w.𝓤
clause_of w (claim P) = fact w.𝓤 P

module _ (T : Ended) (c : (M : Type 1) (𝓤 : Ura M) (𝓛 : Logic 𝓤) → (Memory → SProp 𝓤) → (Routine → Fun 𝓤) → Clauses 𝓤 T) where
  -- the same with what the contract asks of its caller, for functions whose claim says that it is nothing
  pub record Reading : Type 2 where
    pub asks : (κs : Lfts T.signature.lifetimes) → ArgsD T.signature κs → Ask
    pub Learnt : (κs : Lfts T.signature.lifetimes) → ArgsD T.signature κs → ResD T.signature κs → AtExit T κs → Type 0
    pub exact : (w : World) → at T c w ≡ (λ κs a. record { ghost = Unit {0}; requires = λ g. clause_of w (asks κs a); ensures = λ g r s. fact w.𝓤 (Learnt κs a r s) })

-- what the contract asks of a caller, as a claim
abbrev pub Asked : {T : Ended} {c : (M : Type 1) (𝓤 : Ura M) (𝓛 : Logic 𝓤) → (Memory → SProp 𝓤) → (Routine → Fun 𝓤) → Clauses 𝓤 T} → Reading T c
    → (κs : Lfts T.signature.lifetimes) → ArgsD T.signature κs → Type 0
Asked reads κs a = Meaning (reads.asks κs a)
