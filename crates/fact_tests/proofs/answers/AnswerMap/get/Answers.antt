use Rattle.claim_core.specs.contracts.query.QueryPartialEq.TheImpl.{eq-value as query_eq}
use Rattle.fact_tests.proofs.AnswerLemmas.{got, missed}
use Rattle.claim_core.proofs.EqualLemmas.{query_decides}
use Rattle.fact_tests.proofs.answers.AnswerMap.get.Goals as goal

pub returns : goal.returns
returns c =
    let entries = c.self.inside.answers.entries in
    record {
      found = got query_eq.it query_decides entries c.args.self.now c.args.query.now c.get.result c.self.view_is c.get.ensures.value;
      none = missed query_eq.it query_decides entries c.args.self.now c.args.query.now c.get.result c.self.view_is c.get.ensures.value;
    }
