use Rattle.std.specs.List.{flat_map}
use Rattle.hier_blif.specs.Names.{instances_of}
use Rattle.hier_blif.specs.Scopes.{faults_by}
use Rattle.hier_blif.proofs.FindLemmas.{AreLeft}
use Rattle.hier_blif.proofs.names.Scope.check_instances.Given as goal

abbrev pub invariant-loop-model : goal.invariant-loop-model
invariant-loop-model l = AreLeft (λ model. flat_map (faults_by l.check l.self.models.now) (instances_of model)) l.self.models.now l.model-index
