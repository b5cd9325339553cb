-- The clauses of the numbers so far.
use Rattle.learn_solver.proofs.StartLemmas.{putting_none}
use Rattle.learn_solver.proofs.search.add_clauses.Goals as goal

pub loop-id-init : goal.loop-id-init
loop-id-init g c = putting_none (g.B.Base.formula c.args.base.now) c.args.watches.now c.requires.empty
