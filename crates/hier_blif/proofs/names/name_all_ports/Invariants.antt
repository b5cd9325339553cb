use Rattle.std.proofs.Common.{take}
use Rattle.std.specs.List.{AllZip}
use Rattle.hier_blif.specs.NameFaults.{port_faults}
use Rattle.hier_blif.specs.Scopes.{HasPorts}
use Rattle.hier_blif.proofs.FindLemmas.{AreLeft}
use Rattle.hier_blif.proofs.names.name_all_ports.Given as goal

abbrev pub invariant-loop-model : goal.invariant-loop-model
invariant-loop-model l =
    AreLeft port_faults l.models l.model-index × AllZip HasPorts (take l.model-index l.models) l.all.items
