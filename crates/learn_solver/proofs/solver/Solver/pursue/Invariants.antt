use Rattle.std.proofs.Common.{None}
use Rattle.learn_solver.specs.Searches.{HasGone, remaining}
use Rattle.learn_solver.proofs.solver.Solver.pursue.Given as goal

abbrev pub invariant-loop-alloc : goal.invariant-loop-alloc
invariant-loop-alloc g l = HasGone l.fn.self l.self (g.L.Charge.charging l.fn.ledger) (g.L.Charge.charging l.ledger) l.search None

abbrev pub decreases-loop-alloc : goal.decreases-loop-alloc
decreases-loop-alloc g l = remaining (g.L.Charge.charging l.ledger) l.search.trail
