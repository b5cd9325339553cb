use Rattle.std.proofs.Common.{sym, subst, ap, ◌∙◌}
use Rattle.net_core.specs.Sides.{Graphs}
use Rattle.oracle_core.specs.Oracles.{Known, IsAnswered}
use Rattle.oracle_core.specs.Work.{IsOfMatch}
use Rattle.claim_core.specs.declared.query.Query.{Query}
use Rattle.claim_core.specs.MatchQueries.{match_query}
use Rattle.fact_tests.proofs.BookLemmas.{unanswered_match}
use Rattle.fact_tests.proofs.book.Book.answer.Goals as goal

pub ask_new-requires-clause-missing : goal.ask_new-requires-clause-missing
ask_new-requires-clause-missing g c answered =
    let graphs = g.D.Decide.circuits c.self.inside.decider in
    let query = c.in_ok-query.query in
    let missing = c.in-None.ensures.none in
    let asked : Graphs → Query = λ graphs. match_query graphs.first.inputs c.args.matching.now c.args.output c.args.value in
    let of_match : IsOfMatch c.args.self.now.graphs query = record {
      matching = c.args.matching.now;
      output = c.args.output;
      value = c.args.value;
      ports = c.requires.ports;
      there = c.requires.output;
      query_is = c.in_ok-query.ensures.query ∙ (ap asked c.graphs.ensures ∙ ap (λ (k : Known). asked k.graphs) c.self.view_is);
    } in
    unanswered_match graphs c.self.inside.facts c.self.inside.kept query (subst (λ (k : Known). IsOfMatch k.graphs query) (sym c.self.view_is) of_match) missing (subst (λ (k : Known). IsAnswered k query) (sym c.self.view_is) answered)
