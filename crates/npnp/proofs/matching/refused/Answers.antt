-- The account of the facts and bans that the conclusion rests on is accepted, so there is no match.
use Rattle.std.proofs.Common.{subst}
use Rattle.std.proofs.lemmas.List.{length-map}
use Rattle.account_core.specs.Given.{decided_by}
use Rattle.refusal_core.specs.Names.{ReferBack}
use Rattle.refusal_core.proofs.ValidLemmas.{bans_kept, conclusion_kept, facts_kept, refer_back}
use Rattle.run_steps.proofs.AnswerLemmas.{answer_refused}
use Rattle.npnp.proofs.matching.refused.Goals as goal

pub trim-requires-clause-earlier : goal.trim-requires-clause-earlier
trim-requires-clause-earlier c = subst (λ n. ReferBack n c.args.bans) (length-map c.args.facts decided_by) (refer_back _ _ _ c.requires.bans)

pub trim-requires-clause-inside : goal.trim-requires-clause-inside
trim-requires-clause-inside c = c.requires.empty.kept

pub returns : goal.returns
returns c =
    let trimmed = c.in_ok-facts.ensures in
    answer_refused _ _ _ _ _ c.first-first.ensures.sound c.second-second.ensures.sound c.graphs-ports.ensures.ports
    (facts_kept _ _ _ _ _ trimmed c.requires.facts) (bans_kept _ _ _ _ _ trimmed c.requires.bans) (conclusion_kept _ _ _ _ trimmed c.requires.empty)
    c.in_ok-of_refusal.ensures.records c.in_ok-of_refusal.ensures.writable
