use Rattle.cnf_core.proofs.StoreLemmas.{IsAppended}
use Rattle.cnf_core.proofs.clause_store.append_reserved.Given as goal

abbrev pub invariant-loop-literal : goal.invariant-loop-literal
invariant-loop-literal l = IsAppended l.fn.literals l.literals l.more l.literal-index
