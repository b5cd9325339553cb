use Rattle.std.proofs.Common.{◌≡◌, Some, sym, subst}
use Rattle.net_file.specs.Stops.{IsStopBy as IsNetStopBy}
use Rattle.blif_reader.specs.Numbers.{IsRepeatedPort}
use Rattle.hier_blif.specs.Stops.{IsStopBy, first_of}
use Rattle.hier_blif.specs.NameFaults.{repeated_ports}
use Rattle.hier_blif.proofs.PortLemmas.{first_repeated}
use Rattle.hier_blif.proofs.names.port_stop.Goals as goal

pub returns-in-Fault : goal.returns-in-Fault
returns-in-Fault c ports stop =
    let fault = c.in-Fault.fault in
    let is = subst (IsNetStopBy (IsRepeatedPort ports)) c.in-Fault.is stop in
    subst (IsStopBy (λ fault. first_of (repeated_ports ports) ≡ Some fault)) (sym c.fault_at.ensures) (first_repeated ports fault.kind fault.at is)
