-- What the claims take as the promise of a contract is the whole of it, and the contract asks nothing of its caller.
use Rattle.book.specs.Says.{Exactly}
use Rattle.activation.specs.contracts.activate as activate-contract
use Rattle.book.specs.InRattle.{activate_says, activate_promises}

pub activate-exact : Exactly activate-contract.ended (λ M 𝓤 𝓛. activate-contract.clauses 𝓛) activate_promises
activate-exact = activate_says.exact
