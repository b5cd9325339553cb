-- The clauses are marked one after the other.
use Rattle.std.proofs.Common.{◌<◌, length, arith}
use Rattle.learn_solver.proofs.DecisionLemmas.{clause_marked}
use Rattle.learn_solver.proofs.decision.mark_all.Goals as goal

pub loop-id-preserved : goal.loop-id-preserved
loop-id-preserved c =
    let clauses = c.args.clauses.now.clauses in
    let within : c.loop-id.id < length clauses = omega (arith, c.loop-id-test.true, c.count-id-end.ensures, c.loop-id.auto.id-end) in
    clause_marked c.args.marked.now c.loop-id.marked c.mark_clause.new.marked clauses c.loop-id.id c.get.result.now c.loop-id.invariant within c.get.ensures c.mark_clause.ensures.size c.mark_clause.ensures.stay c.mark_clause.ensures.marked
