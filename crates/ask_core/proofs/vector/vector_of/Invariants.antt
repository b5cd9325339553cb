use Rattle.std.proofs.Common.{◌≡◌}
use Rattle.claim_core.specs.Queries.{vector_in}
use Rattle.ask_core.proofs.vector.vector_of.Given as goal

abbrev pub invariant-loop-input : goal.invariant-loop-input
invariant-loop-input l = l.vector ≡ vector_in l.input l.values
