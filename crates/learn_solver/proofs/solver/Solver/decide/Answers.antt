-- A model, or one decision more.
use Rattle.learn_solver.proofs.ModelLemmas.{model_from}
use Rattle.learn_solver.proofs.RunLemmas.{decided_on}
use Rattle.learn_solver.proofs.solver.Solver.decide.Goals as goal

pub returns-in_default : goal.returns-in_default
returns-in_default g c =
    let s = c.args.self.now in
    let search = c.args.search.now in
    let is = c.requires.running.learning in
    model_from s search.watches.clauses search.tools.occurring.items search.trail c.in_ok-values.values is.solver is.tools_are.variables is.searching c.requires.quiet c.in_default.ensures.none c.in_ok-values.ensures

pub returns : goal.returns
returns g c =
    let search = c.args.search.now in
    let new = c.decision.new.self in
    decided_on c.args.self.now search.trail c.decide.new.self search.watches search.tools new c.in-Some.literal c.requires.running c.decision.ensures.stay c.requires.quiet c.requires.walked c.decide.ensures.decided c.decide.ensures.most
