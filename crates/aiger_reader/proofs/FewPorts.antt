-- A file's netlist has few ports, each with a name, all signals that it names, and no cycle.
use Rattle.std.proofs.Common.{◌≡◌, ℕ, ◌≤◌, List, length, sym, ◌∙◌, arith}
use Rattle.circuits.specs.Circuits.{Circuit, IsClosed}
use Rattle.circuits.specs.Levels.{IsAcyclic}
use Rattle.net_core.specs.Limits.{most_ports}
use Rattle.aiger_reader.specs.Aiger.{IsAiger}
use Rattle.aiger_reader.proofs.LimitLemmas.{accepted_limits}
use Rattle.aiger_reader.proofs.NetlistLemmas.{net_sizes, net_closed}

pub few_inputs : (bytes : List ℕ) (circuit : Circuit) (i o : List (List ℕ)) → IsAiger bytes circuit i o → circuit.inputs ≤ most_ports
few_inputs bytes circuit i o is =
    omega (arith, (accepted_limits is.h is.netlist.begins.accepted).inputs, (net_sizes bytes is.h circuit is.rest is.netlist).inputs)

pub few_outputs : (bytes : List ℕ) (circuit : Circuit) (i o : List (List ℕ)) → IsAiger bytes circuit i o → length circuit.outputs ≤ most_ports
few_outputs bytes circuit i o is =
    omega (arith, (accepted_limits is.h is.netlist.begins.accepted).outputs, (net_sizes bytes is.h circuit is.rest is.netlist).outputs)

pub names_of_ports : (bytes : List ℕ) (circuit : Circuit) (i o : List (List ℕ)) → IsAiger bytes circuit i o → (length i ≡ circuit.inputs) × (length o ≡ length circuit.outputs)
names_of_ports bytes circuit i o is =
    let sizes = net_sizes bytes is.h circuit is.rest is.netlist in
    (is.names.input_names_are.count_is ∙ sym sizes.inputs, is.names.output_names_are.count_is ∙ sym sizes.outputs)

pub aiger_closed : (bytes : List ℕ) (circuit : Circuit) (i o : List (List ℕ)) → IsAiger bytes circuit i o → IsClosed circuit
aiger_closed bytes circuit i o is = net_closed bytes is.h circuit is.rest is.netlist

pub aiger_acyclic : (bytes : List ℕ) (circuit : Circuit) (i o : List (List ℕ)) → IsAiger bytes circuit i o → IsAcyclic circuit
aiger_acyclic bytes circuit i o is = is.acyclic
