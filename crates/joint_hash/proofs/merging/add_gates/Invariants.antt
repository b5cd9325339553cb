use Rattle.joint_hash.specs.Classes.{IsUnderWay}
use Rattle.joint_hash.proofs.VisitLemmas.{above_first}
use Rattle.joint_hash.proofs.merging.add_gates.Given as goal

abbrev pub invariant-loop-id : goal.invariant-loop-id
invariant-loop-id l = IsUnderWay l.cones.graphs l.cones.query (above_first l.ids l.id-index) l.merged.lines.items l.merged.firsts.entries l.merged.twins.entries
