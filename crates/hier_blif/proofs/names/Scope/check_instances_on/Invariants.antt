use Rattle.std.specs.List.{flat_map}
use Rattle.hier_blif.specs.Names.{instances_on}
use Rattle.hier_blif.specs.Scopes.{faults_by}
use Rattle.hier_blif.proofs.FindLemmas.{AreLeft}
use Rattle.hier_blif.proofs.names.Scope.check_instances_on.Given as goal

abbrev pub invariant-loop-line : goal.invariant-loop-line
invariant-loop-line l = AreLeft (λ line. flat_map (faults_by l.check l.self.models.now) (instances_on line)) l.lines l.line-index
