use Rattle.cnf_core.specs.Derivations.{clauses_of}
use Rattle.table_oracle.proofs.SplitLemmas.{AreNewUpTo}
use Rattle.table_oracle.proofs.splitting.covering_line.Given as goal

abbrev pub invariant-loop-place : goal.invariant-loop-place
invariant-loop-place l = AreNewUpTo (clauses_of l.lines) l.clause l.place
