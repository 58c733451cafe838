-- `claims::fields_are_parts` meets its contract, which is the claim itself.
use Rattle.claims.proofs.Parts.{fields-are-parts}
use Rattle.claims.proofs.fields_are_parts.Goals as goal

pub returns : goal.returns
returns c = fields-are-parts
