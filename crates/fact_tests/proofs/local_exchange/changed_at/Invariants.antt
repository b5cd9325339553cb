-- Nothing is listed of the signal so far.
use Rattle.std.proofs.Common.{◌≢◌, ℕ, ◌<◌, get_or}
use Rattle.fact_tests.specs.declared.local_exchange.Changed.{Changed}
use Rattle.fact_tests.proofs.local_exchange.changed_at.Given as goal

abbrev pub invariant-loop-entry : goal.invariant-loop-entry
invariant-loop-entry l = (k : ℕ) (d : Changed) → k < l.entry-index → (get_or l.changed k d).signal ≢ l.signal
