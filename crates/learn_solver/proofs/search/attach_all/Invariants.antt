use Rattle.learn_solver.specs.Starts.{IsStarting}
use Rattle.learn_solver.proofs.search.attach_all.Given as goal

abbrev pub invariant-loop-id : goal.invariant-loop-id
invariant-loop-id l = IsStarting l.fn.watches l.watches l.trail l.id
