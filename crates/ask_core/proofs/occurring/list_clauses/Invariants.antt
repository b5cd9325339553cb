-- The variables of the clauses so far are listed.
use Rattle.std.proofs.Common.{length}
use Rattle.ask_core.proofs.BaseLemmas.{AreListing}
use Rattle.ask_core.proofs.occurring.list_clauses.Given as goal

abbrev pub invariant-loop-clause : goal.invariant-loop-clause
invariant-loop-clause l = AreListing (length l.fn.marked) l.names.items l.marked l.clauses l.clause-index
