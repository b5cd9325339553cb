use Rattle.std.proofs.Common.{List, sym, subst, ◌∙◌}
use Rattle.std.specs.List.{flat_map}
use Rattle.hier_blif.specs.declared.fault.HierFault.{HierFault}
use Rattle.hier_blif.specs.declared.model.ModelLine.{ModelLine}
use Rattle.hier_blif.specs.declared.model.BlifModel.{BlifModel}
use Rattle.hier_blif.specs.declared.names.InstanceCheck.{InstanceCheck}
use Rattle.hier_blif.specs.Stops.{Finds}
use Rattle.hier_blif.specs.Names.{instances_on}
use Rattle.hier_blif.specs.Scopes.{faults_by}
use Rattle.hier_blif.proofs.FindLemmas.{left_more, left_stop, left_none, flat_map_twice}
use Rattle.hier_blif.proofs.names.Scope.check_instances_on.Goals as goal

abbrev faults_on : InstanceCheck → List BlifModel → ModelLine → List HierFault
faults_on check models line = flat_map (faults_by check models) (instances_on line)

pub loop-line-preserved : goal.loop-line-preserved
loop-line-preserved c =
    left_more (faults_on c.args.check c.args.self.now.models.now) c.args.lines.now c.loop-line.line-index c.line-item.result c.loop-line-test.true c.line-item.is c.loop-line.invariant c.in_ok-check_line.ensures

pub returns-in_err-check_line : goal.returns-in_err-check_line
returns-in_err-check_line c =
    let models = c.args.self.now.models.now in
    let check = c.args.check in
    let lines = c.args.lines.now in
    subst (λ fs. Finds fs c.from_residual.result) (flat_map_twice (faults_by check models) instances_on lines) (left_stop (faults_on check models) lines c.loop-line.line-index c.line-item.result c.check_line.result c.from_residual.result _ c.loop-line-test.true c.line-item.is c.loop-line.invariant c.in_err-check_line.was c.from_residual.ensures.1 c.check_line.ensures)

pub returns : goal.returns
returns c =
    let models = c.args.self.now.models.now in
    let check = c.args.check in
    let lines = c.args.lines.now in
    sym (flat_map_twice (faults_by check models) instances_on lines) ∙ left_none (faults_on check models) lines c.loop-line.line-index c.loop-line-test.false c.loop-line.invariant
