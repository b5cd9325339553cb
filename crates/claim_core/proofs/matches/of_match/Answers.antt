-- The query of a match fits the two circuits.
use Rattle.std.proofs.Common.{sym, subst, arith}
use Rattle.std.proofs.lemmas.Grind.{common_steps}
use Rattle.claim_core.specs.Queries.{IsQuery}
use Rattle.claim_core.proofs.MatchLemmas.{match_query_fits}
use Rattle.claim_core.proofs.matches.of_match.Goals as goal

pub returns-clause-query : goal.returns-clause-query
returns-clause-query c = grind (arith, common_steps)

pub returns-clause-fits : goal.returns-clause-fits
returns-clause-fits c =
    subst (IsQuery c.args.graphs.now) (sym (returns-clause-query c)) (match_query_fits c.args.graphs.now c.args.matching.now c.args.output c.args.value c.requires.ports c.requires.output)
