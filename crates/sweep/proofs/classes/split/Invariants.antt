-- The classes are right.
use Rattle.sweep.specs.Classes.{AreClasses}
use Rattle.sweep.proofs.classes.split.Given as goal

abbrev pub invariant-loop-word : goal.invariant-loop-word
invariant-loop-word l = AreClasses l.exposed l.members.items
