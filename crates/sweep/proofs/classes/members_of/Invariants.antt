-- The signals so far are of the first class.
use Rattle.std.proofs.Common.{◌≡◌, map, take}
use Rattle.sweep.specs.Classes.{first_member}
use Rattle.sweep.proofs.classes.members_of.Given as goal

abbrev pub invariant-loop-flip : goal.invariant-loop-flip
invariant-loop-flip l = l.members.items ≡ map first_member (take l.flip-index l.bits)
