use Rattle.claim_core.specs.contracts.query.QueryPartialEq.TheImpl.{eq-value as query_eq}
use Rattle.fact_tests.proofs.AnswerLemmas.{one_more}
use Rattle.claim_core.proofs.EqualLemmas.{query_decides}
use Rattle.fact_tests.proofs.answers.AnswerMap.add.Goals as goal

pub returns : goal.returns
returns c = record {
  added = one_more query_eq.it query_decides c.self.inside.answers.entries c.insert.new.self.entries c.args.self.now c.args.query c.args.answer c.self.view_is c.requires c.in_ok-insert.ensures.entries;
  refused = tt;
}
