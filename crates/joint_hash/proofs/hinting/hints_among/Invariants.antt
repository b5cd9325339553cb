use Rattle.std.proofs.Common.{map, drop, ◌++◌}
use Rattle.cnf_core.specs.Clauses.{opposite}
use Rattle.cnf_core.specs.Derivations.{clauses_of}
use Rattle.claim_core.specs.Formulas.{query_clauses}
use Rattle.joint_hash.proofs.HintLemmas.{IsOnTheWay}
use Rattle.joint_hash.proofs.hinting.hints_among.Given as goal

abbrev pub invariant-loop-id : goal.invariant-loop-id
invariant-loop-id l = IsOnTheWay (query_clauses l.cones.graphs l.cones.query ++ clauses_of l.lines) (map opposite l.clause) l.made l.hints l.ids (drop l.id-index l.ids)
