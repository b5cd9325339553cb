-- The variables so far are assigned.
use Rattle.std.proofs.Common.{ℕ, ◌<◌, slice_index_or}
use Rattle.learn_solver.specs.Searches.{IsAssigned}
use Rattle.learn_solver.proofs.decision.next_decision.Given as goal

abbrev pub invariant-loop-variable : goal.invariant-loop-variable
invariant-loop-variable l = (k d : ℕ) → k < l.variable-index → IsAssigned l.trail (slice_index_or l.occurring k d)
