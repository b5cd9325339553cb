-- One variable more.
use Rattle.learn_solver.proofs.DecisionLemmas.{literal_marked}
use Rattle.learn_solver.proofs.decision.mark_clause.Goals as goal
use Rattle.cnf_core.proofs.LiteralLemmas.{no_literal}

pub loop-literal-preserved : goal.loop-literal-preserved
loop-literal-preserved c =
    literal_marked c.args.marked.now c.loop-literal.marked c.args.clause.now c.loop-literal.literal-index no_literal c.variable.result c.requires c.loop-literal.invariant c.loop-literal-test.true c.variable.ensures
