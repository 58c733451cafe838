-- `query_claims::queries_are_parts` meets its contract, which is the claim itself.
use Rattle.query_claims.proofs.Queries.{accepted-queries}
use Rattle.query_claims.proofs.queries_are_parts.Goals as goal

pub returns : goal.returns
returns c = accepted-queries
