use Rattle.std.proofs.Common.{◌≡◌, ◌≤◌, length, take}
use Rattle.net_core.specs.Limits.{most_ports}
use Rattle.blif_reader.specs.Names.{words_of_kind}
use Rattle.blif_reader.proofs.ports.find_excess.Given as goal

-- n of the ports before are of the kind
abbrev pub invariant-loop-port : goal.invariant-loop-port
invariant-loop-port l =
    (l.count ≡ length (words_of_kind l.kind (take l.port-index l.ports))) × (l.count ≤ most_ports)
