use Rattle.std.proofs.Common.{ℕ, ◌<◌, slice_index_or}
use Rattle.claim_core.specs.declared.query.Feed.{Feed}
use Rattle.claim_core.specs.Queries.{IsWired}
use Rattle.solver_tests.proofs.answers.are_wired.Given as goal

abbrev pub invariant-loop-input : goal.invariant-loop-input
invariant-loop-input l = (k : ℕ) (d : Feed) → k < l.input → IsWired l.inputs (slice_index_or l.feeds k d)
