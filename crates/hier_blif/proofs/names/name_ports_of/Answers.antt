use Rattle.std.proofs.Common.{◌≡◌, Some, ap, subst, ◌∙◌}
use Rattle.std.specs.List.{flat_map}
use Rattle.hier_blif.specs.Stops.{IsStopBy, first_of}
use Rattle.hier_blif.specs.Names.{ports_on}
use Rattle.hier_blif.specs.NameFaults.{repeated_ports}
use Rattle.hier_blif.proofs.PortLemmas.{no_port_faults, has_ports}
use Rattle.hier_blif.proofs.names.name_ports_of.Goals as goal

pub returns-in-Ok : goal.returns-in-Ok
returns-in-Ok c =
    let model = c.args.model.now in
    let ports = c.deref-2.result.now in
    let is = c.deref-2.ensures.value ∙ (c.in_ok-ports.ensures ∙ ap (flat_map ports_on) c.deref.ensures.value) in
    record {
      faults = no_port_faults model ports _ _ is c.in-Ok.ensures.named;
      named = has_ports model ports c.in-Ok.named is c.in-Ok.ensures.named;
    }

pub returns-clause-faults : goal.returns-clause-faults
returns-clause-faults c =
    let ports = c.deref-2.result.now in
    let is = c.deref-2.ensures.value ∙ (c.in_ok-ports.ensures ∙ ap (flat_map ports_on) c.deref.ensures.value) in
    subst (λ ps. IsStopBy (λ fault. first_of (repeated_ports ps) ≡ Some fault) c.port_stop.result) is (c.port_stop.ensures ports c.in-Err.ensures.stop)
