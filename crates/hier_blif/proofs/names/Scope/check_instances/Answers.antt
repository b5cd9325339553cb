use Rattle.std.proofs.Common.{◌≡◌, List, [], sym, subst, ◌∙◌}
use Rattle.std.specs.List.{flat_map}
use Rattle.hier_blif.specs.declared.fault.HierFault.{HierFault}
use Rattle.hier_blif.specs.declared.model.BlifModel.{BlifModel}
use Rattle.hier_blif.specs.declared.names.InstanceCheck.{InstanceCheck}
use Rattle.hier_blif.specs.Stops.{Finds}
use Rattle.hier_blif.specs.Names.{instances_on, instances_of}
use Rattle.hier_blif.specs.Scopes.{faults_by}
use Rattle.hier_blif.proofs.FindLemmas.{left_more, left_stop, left_none, flat_map_twice}
use Rattle.hier_blif.proofs.names.Scope.check_instances.Goals as goal

abbrev faults_on : InstanceCheck → List BlifModel → BlifModel → List HierFault
faults_on check models model = flat_map (faults_by check models) (instances_of model)

pub loop-model-preserved : goal.loop-model-preserved
loop-model-preserved c =
    left_more (faults_on c.args.check c.args.self.now.models.now) c.args.self.now.models.now c.loop-model.model-index c.model-item.result c.loop-model-test.true c.model-item.is c.loop-model.invariant (subst (λ lines. flat_map (faults_by c.args.check c.args.self.now.models.now) (flat_map instances_on lines) ≡ []) c.deref.ensures.value c.in_ok-check_instances_on.ensures)

pub returns-in_err-check_instances_on : goal.returns-in_err-check_instances_on
returns-in_err-check_instances_on c =
    let models = c.args.self.now.models.now in
    let check = c.args.check in
    subst (λ fs. Finds fs c.from_residual.result) (flat_map_twice (faults_by check models) instances_of models) (left_stop (faults_on check models) models c.loop-model.model-index c.model-item.result c.check_instances_on.result c.from_residual.result _ c.loop-model-test.true c.model-item.is c.loop-model.invariant c.in_err-check_instances_on.was c.from_residual.ensures.1 (subst (λ lines. Finds (flat_map (faults_by check models) (flat_map instances_on lines)) c.check_instances_on.result) c.deref.ensures.value c.check_instances_on.ensures))

pub returns : goal.returns
returns c =
    let models = c.args.self.now.models.now in
    let check = c.args.check in
    sym (flat_map_twice (faults_by check models) instances_of models) ∙ left_none (faults_on check models) models c.loop-model.model-index c.loop-model-test.false c.loop-model.invariant
