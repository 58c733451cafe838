-- What the claims take as the promise of a contract is the whole of it, and the contract asks nothing of its caller.
use Rattle.book.specs.Says.{Exactly}
use Rattle.device_pool.specs.contracts.text as text-rattle
use Rattle.query_claims.specs.Lent.{text_says, text_promises}

pub text-exact : Exactly text-rattle.ended (λ M 𝓤 𝓛. text-rattle.clauses 𝓛) text_promises
text-exact = text_says.exact
