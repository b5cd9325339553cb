use Rattle.claim_core.specs.Formulas.{query_clauses}
use Rattle.table_oracle.proofs.HintLemmas.{IsUnderWay}
use Rattle.table_oracle.proofs.splitting.Splitting.hints_by_gates.Given as goal

abbrev pub invariant-loop-id : goal.invariant-loop-id
invariant-loop-id l = IsUnderWay (query_clauses l.self.base.graphs l.self.base.query) l.bits l.made l.hints l.id
