use Rattle.std.proofs.Common.{◌≡◌, ◌++◌, drop}
use Rattle.blif_reader.specs.Numbers.{port_names}
use Rattle.blif_reader.proofs.ports.names_of_kind.Given as goal

-- the names so far and those of the ports that are left make the whole
abbrev pub invariant-loop-port : goal.invariant-loop-port
invariant-loop-port l = l.names ++ port_names l.kind (drop l.port-index l.ports) ≡ port_names l.kind l.ports
