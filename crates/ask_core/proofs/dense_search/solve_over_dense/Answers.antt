-- What a solver says of all clauses over dense variables.
use Rattle.ask_core.specs.Renamings.{dense_formula}
use Rattle.ask_core.proofs.DenseLemmas.{dense_found, dense_halted, dense_learned}
use Rattle.ask_core.proofs.dense_search.solve_over_dense.Goals as goal

pub returns-clause-found : goal.returns-clause-found
returns-clause-found g c =
    dense_found (dense_formula c.args.dense.now) c.args.solver.now c.solve_guided.new.solver c.args.tab.now c.solve_guided.new.ledger c.solve_guided.result c.requires.all c.solve_guided.ensures.lines c.solve_guided.ensures.found

pub returns-clause-learned : goal.returns-clause-learned
returns-clause-learned g c =
    dense_learned (dense_formula c.args.dense.now) c.args.solver.now c.solve_guided.new.solver c.args.tab.now c.solve_guided.new.ledger c.solve_guided.result c.requires.all c.solve_guided.ensures.lines

pub returns-clause-stop : goal.returns-clause-stop
returns-clause-stop g c =
    dense_halted (dense_formula c.args.dense.now) c.args.solver.now c.solve_guided.new.solver c.args.tab.now c.solve_guided.new.ledger c.solve_guided.result c.requires.all c.solve_guided.ensures.stop
