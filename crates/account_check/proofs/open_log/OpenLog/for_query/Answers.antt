-- The query of the matching fits, and no line was taken.
use Rattle.std.proofs.Common.{◌≡◌, [], None, subst, rules}
use Rattle.claim_core.specs.Formulas.{Asking}
use Rattle.claim_core.specs.MatchQueries.{match_query}
use Rattle.claim_core.proofs.MatchLemmas.{match_query_fits}
use Rattle.refute_check.specs.Refutations.{Refuting}
use Rattle.account_check.specs.Proofs.{IsLogSoFar}
use Rattle.account_check.proofs.LogLemmas.{log_begun}
use Rattle.account_check.proofs.open_log.OpenLog.for_query.Goals as goal

pub invariant_of-result : goal.invariant_of-result
invariant_of-result c =
    let graphs = c.args.self.graphs in
    let query = match_query graphs.first.inputs c.args.matching.now c.args.output c.args.value in
    let fits = match_query_fits graphs c.args.matching.now c.args.output c.args.value c.requires.ports c.requires.output in
    let asking : Asking = record { graphs = graphs; query = query } in
    let made : Refuting Asking = record { base = asking; taken = []; room = None } in
    let is : made ≡ c.with_values.result = search rules in
    subst (λ (r : Refuting Asking). IsLogSoFar r.base.graphs r.base.query r.taken) is (log_begun graphs query fits)
