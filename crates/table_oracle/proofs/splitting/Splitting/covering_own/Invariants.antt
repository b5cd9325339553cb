use Rattle.claim_core.specs.Formulas.{query_clauses}
use Rattle.table_oracle.proofs.SplitLemmas.{AreNewUpTo}
use Rattle.table_oracle.proofs.splitting.Splitting.covering_own.Given as goal

abbrev pub invariant-loop-id : goal.invariant-loop-id
invariant-loop-id l = AreNewUpTo (query_clauses l.self.base.graphs l.self.base.query) l.clause l.id
