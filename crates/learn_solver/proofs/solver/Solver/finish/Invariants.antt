use Rattle.std.proofs.Common.{None}
use Rattle.learn_solver.specs.Searches.{HasGone, remaining}
use Rattle.learn_solver.proofs.solver.Solver.finish.Given as goal

abbrev pub invariant-loop-found : goal.invariant-loop-found
invariant-loop-found g l = HasGone l.fn.self l.self (g.L.Charge.charging l.fn.ledger) (g.L.Charge.charging l.ledger) l.search None

abbrev pub decreases-loop-found : goal.decreases-loop-found
decreases-loop-found g l = remaining (g.L.Charge.charging l.ledger) l.search.trail
