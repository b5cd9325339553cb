use Rattle.pair_search.specs.ConflictSets.{HasNoChoice}
use Rattle.pair_search.proofs.resolution.choice_between.Given as goal

abbrev pub invariant-loop-place : goal.invariant-loop-place
invariant-loop-place l = HasNoChoice l.entries l.from l.place
