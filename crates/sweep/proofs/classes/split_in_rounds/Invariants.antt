-- The classes are right.
use Rattle.sweep.specs.Classes.{AreClasses}
use Rattle.sweep.proofs.classes.split_in_rounds.Given as goal

abbrev pub invariant-loop-round : goal.invariant-loop-round
invariant-loop-round l = AreClasses l.exposed l.members.items
