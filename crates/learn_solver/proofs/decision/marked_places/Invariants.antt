-- The marked ones of the places so far are listed.
use Rattle.learn_solver.specs.Analyses.{AreMarkedPlaces}
use Rattle.learn_solver.proofs.decision.marked_places.Given as goal

abbrev pub invariant-loop-place : goal.invariant-loop-place
invariant-loop-place l = AreMarkedPlaces l.marked l.place l.places.items
