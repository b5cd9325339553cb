use Rattle.blif_reader.specs.Numbers.{AreNamed, names_of}
use Rattle.blif_reader.proofs.names.name_all.Given as goal

abbrev pub invariant-loop-port : goal.invariant-loop-port
invariant-loop-port l = AreNamed l.ports l.port-index (names_of l.named.inputs) (names_of l.named.outputs)
