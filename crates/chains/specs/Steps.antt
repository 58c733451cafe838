-- Steps from record to record, for internal functions. Definitions only.
use Rattle.std.specs.Prelude.{ℕ, ◌+◌, ◌≤◌, ◌<◌, ◌≡◌, List, ◌↔◌, length, get_or}
use Rattle.pool.specs.Reading.{Entry}
use Rattle.naming.specs.Naming.{parent_of, climb}

-- for each number up to n the list ups has where m or more steps lead from it
abbrev pub Climbs : (ℕ → ℕ) → ℕ → ℕ → List ℕ → Type 0
Climbs f n m ups = (r : ℕ) → r ≤ n → (k : ℕ) × (m ≤ k) × (get_or ups r 0 ≡ climb f k r)

-- the list has twice as many steps as before, whatever the step function is
abbrev pub Doubles : ℕ → List ℕ → List ℕ → Type 0
Doubles n before after = (f : ℕ → ℕ) (m : ℕ) → f 0 ≡ 0 → Climbs f n m before → Climbs f n (m + m) after

-- from a number whose chain has not ended, the list leads to another such number
abbrev pub Closed : ℕ → List ℕ → Type 0
Closed n ups = (r : ℕ) → r ≤ n → (get_or ups r 0 ≡ 0 → ⊥) → get_or ups (get_or ups r 0) 0 ≡ 0 → ⊥

-- the list has 0 for a record's number exactly if its chain of parents ends
abbrev pub Ended : List ℕ → List Entry → List ℕ → Type 0
Ended p es ups = (r : ℕ) → r ≤ length es → (get_or ups r 0 ≡ 0) ↔ (climb (parent_of p es) (length es) r ≡ 0)

-- for the records with numbers below k, each parent comes before its child
abbrev pub Falling : List ℕ → List Entry → ℕ → Type 0
Falling p es k = (r : ℕ) → r < k → (r ≡ 0 → ⊥) → parent_of p es r < r
