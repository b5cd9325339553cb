-- The clauses so far are written over places.
use Rattle.ask_core.specs.Renamings.{AreOverPlaces}
use Rattle.ask_core.proofs.clauses.all_over_places.Given as goal

abbrev pub invariant-loop-clause : goal.invariant-loop-clause
invariant-loop-clause l = AreOverPlaces l.names l.clauses l.dense.items l.clause-index
