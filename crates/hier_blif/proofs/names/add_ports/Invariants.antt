use Rattle.std.proofs.Common.{◌≡◌, ◌++◌, take}
use Rattle.blif_reader.specs.Names.{named_ports}
use Rattle.hier_blif.proofs.names.add_ports.Given as goal

abbrev pub invariant-loop-word : goal.invariant-loop-word
invariant-loop-word l = l.ports.items ≡ l.initial.ports.items ++ named_ports l.kind (take l.word-index l.words)
