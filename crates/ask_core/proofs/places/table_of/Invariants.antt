-- The variables so far that occur have their dense variables.
use Rattle.ask_core.proofs.BaseLemmas.{IsPlacing}
use Rattle.ask_core.proofs.places.table_of.Given as goal

abbrev pub invariant-loop-place : goal.invariant-loop-place
invariant-loop-place l = IsPlacing l.variables l.names l.places.items l.place
