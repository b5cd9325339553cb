-- What either reader read is what the file is.
use Rattle.std.proofs.Common.{sym, ◌∙◌}
use Rattle.std.proofs.lemmas.Bool.{false≢true}
use Rattle.check_steps.proofs.CircuitLemmas.{blif_read}
use Rattle.check_steps.proofs.netlists.read_circuit.Goals as goal

pub returns-else-begins_as_aiger-clause-netlist : goal.returns-else-begins_as_aiger-clause-netlist
returns-else-begins_as_aiger-clause-netlist c =
    blif_read _ c.read-else-begins_as_aiger.result (λ begins. false≢true (sym c.if-begins_as_aiger.false ∙ c.begins_as_aiger.ensures.1 begins)) c.read-else-begins_as_aiger.ensures.netlist
