use Rattle.std.proofs.Common.{ℕ, ◌<◌}
use Rattle.circuits.specs.Literals.{vector_of}
use Rattle.claim_core.specs.Queries.{MeetsQuery, bits_in}
use Rattle.table_oracle.proofs.vectors.meeting_vector.Given as goal

abbrev pub invariant-loop-code : goal.invariant-loop-code
invariant-loop-code l = (c : ℕ) → c < l.code → MeetsQuery l.graphs l.query (vector_of (bits_in l.graphs l.query) c) → ⊥
