use Rattle.joint_hash.specs.Trees.{AreJoining}
use Rattle.joint_hash.proofs.polarity.add_required.Given as goal

abbrev pub invariant-loop-place : goal.invariant-loop-place
invariant-loop-place l = AreJoining l.cones.graphs l.cones.query l.lines.items
