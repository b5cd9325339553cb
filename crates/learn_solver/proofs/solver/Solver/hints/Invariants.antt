use Rattle.std.proofs.Common.{◌≡◌, map, take}
use Rattle.learn_solver.specs.Solvers.{id_at}
use Rattle.learn_solver.proofs.solver.Solver.hints.Given as goal

abbrev pub invariant-loop-step : goal.invariant-loop-step
invariant-loop-step g l = l.hints ≡ map (id_at l.self.formula l.self.ids) (take l.step-index l.steps)
