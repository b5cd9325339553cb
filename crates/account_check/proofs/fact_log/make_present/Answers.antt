-- In a whole base all clauses are present.
use Rattle.std.proofs.Common.{ap, ◌∙◌}
use Rattle.query_core.specs.ClaimClauses.{PartialQuery}
use Rattle.query_core.proofs.ClaimClauseLemmas.{all_present}
use Rattle.account_check.proofs.fact_log.make_present.Goals as goal

pub returns-clause-present : goal.returns-clause-present
returns-clause-present c =
    all_present c.set_base.new.self.base c.args.hints.now (ap (λ (t : PartialQuery). t.whole) c.set_base.ensures.base ∙ c.in_ok-whole.ensures.whole)
