-- An answer as the numbers that a C caller gets. Definitions only.
use Rattle.std.specs.Prelude.{ℕ, ◌≡◌}
use Rattle.pool.specs.Answer.{Answer}

-- the result is the answer's number, and the lent number is the answer's value
pub record Says (a : Answer) (result lent : ℕ) : Type 0 where
  pub number : result ≡ a.number
  pub value : lent ≡ a.value
