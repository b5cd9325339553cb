-- The variables so far that occur have their bits.
use Rattle.ask_core.proofs.BaseLemmas.{IsSpreading}
use Rattle.ask_core.proofs.translation.spread.Given as goal

abbrev pub invariant-loop-place : goal.invariant-loop-place
invariant-loop-place l = IsSpreading l.variables l.names l.values l.full l.place
