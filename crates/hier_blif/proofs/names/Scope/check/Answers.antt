use Rattle.std.specs.List.{flat_map}
use Rattle.hier_blif.specs.Names.{all_instances}
use Rattle.hier_blif.specs.NameFaults.{model_faults, formal_faults, twice_faults, unbound_faults, redefined_faults}
use Rattle.hier_blif.proofs.FindLemmas.{then_stop, skipped}
use Rattle.hier_blif.proofs.names.Scope.check.Goals as goal

pub returns-in_err-check_instances : goal.returns-in_err-check_instances
returns-in_err-check_instances c =
    let models = c.args.self.now.models.now in
    let lines = all_instances models in
    then_stop (flat_map (model_faults models) lines) _ c.check_instances.result c.from_residual.result _ c.in_err-check_instances.was c.from_residual.ensures.1 c.check_instances.ensures

pub returns-in_err-check_instances-2 : goal.returns-in_err-check_instances-2
returns-in_err-check_instances-2 c =
    let models = c.args.self.now.models.now in
    let lines = all_instances models in
    skipped (flat_map (model_faults models) lines) _ _ c.in_ok-check_instances.ensures (then_stop (flat_map (formal_faults models) lines) _ c.check_instances-2.result c.from_residual-in_err-check_instances-2.result _ c.in_err-check_instances-2.was c.from_residual-in_err-check_instances-2.ensures.1 c.check_instances-2.ensures)

pub returns-in_err-check_instances-3 : goal.returns-in_err-check_instances-3
returns-in_err-check_instances-3 c =
    let models = c.args.self.now.models.now in
    let lines = all_instances models in
    skipped (flat_map (model_faults models) lines) _ _ c.in_ok-check_instances.ensures (skipped (flat_map (formal_faults models) lines) _ _ c.in_ok-check_instances-2.ensures (then_stop (flat_map twice_faults lines) _ c.check_instances-3.result c.from_residual-in_err-check_instances-3.result _ c.in_err-check_instances-3.was c.from_residual-in_err-check_instances-3.ensures.1 c.check_instances-3.ensures))

pub returns-in_err-check_instances-4 : goal.returns-in_err-check_instances-4
returns-in_err-check_instances-4 c =
    let models = c.args.self.now.models.now in
    let lines = all_instances models in
    skipped (flat_map (model_faults models) lines) _ _ c.in_ok-check_instances.ensures (skipped (flat_map (formal_faults models) lines) _ _ c.in_ok-check_instances-2.ensures (skipped (flat_map twice_faults lines) _ _ c.in_ok-check_instances-3.ensures (then_stop (flat_map (unbound_faults models) lines) _ c.check_instances-4.result c.from_residual-in_err-check_instances-4.result _ c.in_err-check_instances-4.was c.from_residual-in_err-check_instances-4.ensures.1 c.check_instances-4.ensures)))

pub returns-in_err-names : goal.returns-in_err-names
returns-in_err-names c =
    let models = c.args.self.now.models.now in
    let lines = all_instances models in
    skipped (flat_map (model_faults models) lines) _ _ c.in_ok-check_instances.ensures (skipped (flat_map (formal_faults models) lines) _ _ c.in_ok-check_instances-2.ensures (skipped (flat_map twice_faults lines) _ _ c.in_ok-check_instances-3.ensures (skipped (flat_map (unbound_faults models) lines) _ _ c.in_ok-check_instances-4.ensures (then_stop (flat_map (redefined_faults models) models) _ c.number_names.result c.from_residual-in_err-names.result _ c.in_err-names.was c.from_residual-in_err-names.ensures.1 c.number_names.ensures.faults))))

pub returns : goal.returns
returns c =
    let models = c.args.self.now.models.now in
    let lines = all_instances models in
    skipped (flat_map (model_faults models) lines) _ _ c.in_ok-check_instances.ensures (skipped (flat_map (formal_faults models) lines) _ _ c.in_ok-check_instances-2.ensures (skipped (flat_map twice_faults lines) _ _ c.in_ok-check_instances-3.ensures (skipped (flat_map (unbound_faults models) lines) _ _ c.in_ok-check_instances-4.ensures (skipped (flat_map (redefined_faults models) models) _ _ c.in_ok-names.ensures.faults c.check_read.ensures))))
