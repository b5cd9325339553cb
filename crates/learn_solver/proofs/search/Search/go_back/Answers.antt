-- A restart may follow.
use Rattle.std.proofs.Common.{sym, subst, ◌∙◌}
use Rattle.learn_solver.specs.Orders.{IsOrder}
use Rattle.learn_solver.proofs.search.Search.go_back.Goals as goal

pub restart-requires : goal.restart-requires
restart-requires c = record {
  fitting = c.in_ok-assert.ensures.returned.fitting;
  order = subst (λ n. IsOrder n c.assert.new.self.tools.order) (sym c.in_ok-assert.ensures.returned.variables) c.assert.ensures.order;
}

pub returns : goal.returns
returns c =
    let back = c.in_ok-assert.ensures.returned in
    let keeps = c.restart.ensures in
    record {
      fitting = keeps.fitting;
      clauses = keeps.clauses ∙ back.clauses;
      variables = keeps.variables ∙ back.variables;
      tools = λ formula ids are. keeps.tools formula ids (back.tools formula ids are);
    }
