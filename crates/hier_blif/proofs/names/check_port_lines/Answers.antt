use Rattle.hier_blif.specs.NameFaults.{port_line_faults}
use Rattle.hier_blif.proofs.FindLemmas.{left_more, left_stop, left_none}
use Rattle.hier_blif.proofs.names.check_port_lines.Goals as goal

pub loop-model-preserved : goal.loop-model-preserved
loop-model-preserved c =
    left_more port_line_faults c.args.models.now c.loop-model.model-index c.model-item.result c.loop-model-test.true c.model-item.is c.loop-model.invariant c.in_ok-check_port_lines_of.ensures

pub returns-in_err-check_port_lines_of : goal.returns-in_err-check_port_lines_of
returns-in_err-check_port_lines_of c =
    left_stop port_line_faults c.args.models.now c.loop-model.model-index c.model-item.result c.check_port_lines_of.result c.from_residual.result _ c.loop-model-test.true c.model-item.is c.loop-model.invariant c.in_err-check_port_lines_of.was c.from_residual.ensures.1 c.check_port_lines_of.ensures

pub returns : goal.returns
returns c =
    left_none port_line_faults c.args.models.now c.loop-model.model-index c.loop-model-test.false c.loop-model.invariant
