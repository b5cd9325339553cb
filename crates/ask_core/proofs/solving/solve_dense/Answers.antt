-- What the search over dense variables found is the formula's.
use Rattle.claim_core.specs.Formulas.{formula_of}
use Rattle.learn_solver.proofs.SolverLemmas.{lines_known}
use Rattle.ask_core.proofs.FullLemmas.{dense_asking, dense_extended, dense_stopped, dense_verdict, translating}
use Rattle.ask_core.proofs.solving.solve_dense.Goals as goal

pub new-requires-clause-known : goal.new-requires-clause-known
new-requires-clause-known g c = lines_known (formula_of c.args.cones.now.graphs c.args.cones.now.query) c.args.lemmas.now c.requires.derived

pub returns-clause-verdict : goal.returns-clause-verdict
returns-clause-verdict g c =
    let is = translating _ _ _ _ _ _ c.in_ok-dense.ensures.renaming c.in_ok-dense.ensures.whole c.requires.short c.requires.derived in
    dense_verdict _ _ _ _ _ _ is _ _ c.search_dense.result c.requires.asking.lines_are c.search_dense.ensures.settled

pub returns-clause-lines : goal.returns-clause-lines
returns-clause-lines g c =
    let is = translating _ _ _ _ _ _ c.in_ok-dense.ensures.renaming c.in_ok-dense.ensures.whole c.requires.short c.requires.derived in
    dense_extended _ _ _ _ _ _ is _ _ c.search_dense.result c.requires.asking.lines_are c.search_dense.ensures.settled

pub returns-clause-not_spent : goal.returns-clause-not_spent
returns-clause-not_spent g c =
    dense_asking _ _ _ _ _ _ _ c.search_dense.result c.requires.asking.opened c.requires.asking.not_spent c.search_dense.ensures.settled

pub returns-clause-stop : goal.returns-clause-stop
returns-clause-stop g c =
    let is = translating _ _ _ _ _ _ c.in_ok-dense.ensures.renaming c.in_ok-dense.ensures.whole c.requires.short c.requires.derived in
    dense_stopped _ _ _ _ _ _ is _ _ c.search_dense.result c.requires.asking.lines_are c.search_dense.ensures.unsettled
