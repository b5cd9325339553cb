use Rattle.std.proofs.Common.{refl}
use Rattle.std.specs.List.{flat_map}
use Rattle.hier_blif.specs.NameFaults.{port_line_faults, port_faults}
use Rattle.hier_blif.specs.Scopes.{faults_of_lines}
use Rattle.hier_blif.proofs.FindLemmas.{then_stop, skipped, passed_on, both_none}
use Rattle.hier_blif.proofs.names.scope_of.Goals as goal

pub returns-in_err-check_port_lines-clause-names : goal.returns-in_err-check_port_lines-clause-names
returns-in_err-check_port_lines-clause-names c =
    then_stop (flat_map port_line_faults c.args.models.now) _ c.check_port_lines.result c.from_residual.result _ c.in_err-check_port_lines.was c.from_residual.ensures.1 c.check_port_lines.ensures

pub returns-in_err-ports-clause-names : goal.returns-in_err-ports-clause-names
returns-in_err-ports-clause-names c =
    let models = c.args.models.now in
    skipped (flat_map port_line_faults models) _ _ c.in_ok-check_port_lines.ensures (then_stop (flat_map port_faults models) _ c.name_all_ports.result c.from_residual-in_err-ports.result _ c.in_err-ports.was c.from_residual-in_err-ports.ensures.1 c.name_all_ports.ensures.faults)

pub returns-in_err-check-clause-names : goal.returns-in_err-check-clause-names
returns-in_err-check-clause-names c =
    let models = c.args.models.now in
    skipped (flat_map port_line_faults models) _ _ c.in_ok-check_port_lines.ensures (skipped (flat_map port_faults models) _ _ c.in_ok-ports.ensures.faults (passed_on (faults_of_lines models) c.check.result c.from_residual-in_err-check.result _ c.in_err-check.was c.from_residual-in_err-check.ensures.1 c.check.ensures))

pub check-requires : goal.check-requires
check-requires c = record { places = c.in_ok-places.ensures; ports = c.in_ok-ports.ensures.named }

pub returns : goal.returns
returns c =
    let models = c.args.models.now in
    record {
      names = both_none (flat_map port_line_faults models) _ c.in_ok-check_port_lines.ensures (both_none (flat_map port_faults models) _ c.in_ok-ports.ensures.faults c.in_ok-check.ensures);
      scope = (refl, record { places = c.in_ok-places.ensures; ports = c.in_ok-ports.ensures.named });
    }
