use Rattle.std.proofs.Common.{length}
use Rattle.claim_core.specs.Formulas.{query_clauses}
use Rattle.joint_hash.specs.Chains.{AreListed}
use Rattle.joint_hash.proofs.needed.last_ids.Given as goal

abbrev pub invariant-loop-link : goal.invariant-loop-link
invariant-loop-link l = AreListed (length (query_clauses l.cones.graphs l.cones.query)) l.cones.ids l.ids.items
