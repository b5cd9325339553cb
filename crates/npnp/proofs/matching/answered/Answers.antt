-- What the search came to is a match, or a ban without pairs.
use Rattle.std.proofs.Common.{subst}
use Rattle.match_search.specs.Founds.{IsFound}
use Rattle.npnp.proofs.matching.answered.Goals as goal

pub matched-requires : goal.matched-requires
matched-requires c = subst (λ found. IsFound c.args.graphs.now c.args.bans found) c.in-Match.is c.requires.found

pub refused-requires-clause-empty : goal.refused-requires-clause-empty
refused-requires-clause-empty c = subst (λ found. IsFound c.args.graphs.now c.args.bans found) c.in-None.is c.requires.found
