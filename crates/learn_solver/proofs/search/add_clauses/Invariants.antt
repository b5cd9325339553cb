use Rattle.std.proofs.Common.{take}
use Rattle.learn_solver.proofs.StartLemmas.{IsPutting}
use Rattle.learn_solver.proofs.search.add_clauses.Given as goal

abbrev pub invariant-loop-id : goal.invariant-loop-id
invariant-loop-id g l = IsPutting (g.B.Base.formula l.base) (take l.id-index l.ids) l.watches
