use Rattle.std.proofs.Common.{None}
use Rattle.learn_solver.specs.Searches.{HasGone}
use Rattle.learn_solver.proofs.solver.Solver.follow.Given as goal

abbrev pub invariant-loop-candidate : goal.invariant-loop-candidate
invariant-loop-candidate g l = HasGone l.fn.self l.self (g.L.Charge.charging l.fn.ledger) (g.L.Charge.charging l.ledger) l.search None
