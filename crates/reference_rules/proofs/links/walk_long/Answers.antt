-- `reference_rules::links::walk_long` meets its contract.
use mathlib.Core.Path.{refl}
use Rattle.naming.proofs.Lists.{blank, long}
use Rattle.naming.proofs.Names.{names-few}
use Rattle.reference_rules.proofs.links.walk_long.Goals as goal

pub walk_links-requires : goal.walk_links-requires
walk_links-requires c = (refl, blank 2048, long 5462 _ (names-few c.args.list.now.names), blank 5462, c.requires)
