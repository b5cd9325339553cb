use Rattle.std.proofs.Common.{subst, sym, take, ◌+◌}
use Rattle.std.specs.List.{AllZip}
use Rattle.hier_blif.specs.NameFaults.{port_faults}
use Rattle.hier_blif.specs.Scopes.{HasPorts}
use Rattle.hier_blif.proofs.FindLemmas.{left_more, left_stop, left_none}
use Rattle.hier_blif.proofs.PushLemmas.{zip_more, zip_all}
use Rattle.hier_blif.proofs.names.name_all_ports.Goals as goal

pub loop-model-preserved : goal.loop-model-preserved
loop-model-preserved c =
    let models = c.args.models.now in
    let k = c.loop-model.model-index in
    let model = c.model-item.result in
    let told = c.in_ok-name_ports_of.ensures in
    (left_more port_faults models k model c.loop-model-test.true c.model-item.is c.loop-model.invariant.0 told.faults, subst (AllZip HasPorts (take (k + 1) models)) (sym c.in_ok-push.ensures.items) (zip_more HasPorts models c.loop-model.all.items k model c.in_ok-name_ports_of.field-0 c.loop-model-test.true c.model-item.is c.loop-model.invariant.1 told.named))

pub returns-in_err-name_ports_of-clause-faults : goal.returns-in_err-name_ports_of-clause-faults
returns-in_err-name_ports_of-clause-faults c =
    left_stop port_faults c.args.models.now c.loop-model.model-index c.model-item.result c.name_ports_of.result c.from_residual.result _ c.loop-model-test.true c.model-item.is c.loop-model.invariant.0 c.in_err-name_ports_of.was c.from_residual.ensures.1 c.name_ports_of.ensures.faults

pub returns : goal.returns
returns c = record {
  faults = left_none port_faults c.args.models.now c.loop-model.model-index c.loop-model-test.false c.loop-model.invariant.0;
  named = zip_all HasPorts c.args.models.now c.loop-model.all.items c.loop-model.model-index c.loop-model-test.false c.loop-model.invariant.1;
}
