use Rattle.match_search.proofs.CompareLemmas.{IsComparing}
use Rattle.match_search.proofs.candidate.compare_all.Given as goal

abbrev pub invariant-loop-output : goal.invariant-loop-output
invariant-loop-output g l =
    IsComparing l.graphs l.matching (g.O.Oracle.known l.fn.oracle) (g.O.Oracle.known l.oracle) l.fn.ledger l.ledger l.output l.logs
