use Rattle.hier_blif.specs.NameFaults.{port_line_faults}
use Rattle.hier_blif.proofs.FindLemmas.{AreLeft}
use Rattle.hier_blif.proofs.names.check_port_lines.Given as goal

abbrev pub invariant-loop-model : goal.invariant-loop-model
invariant-loop-model l = AreLeft port_line_faults l.models l.model-index
