-- A file is one circuit at most, or has one first fault, and never both.
use Rattle.std.proofs.Common.{◌≡◌, ◌⊎◌, ℕ, ◌≤◌, inl, inr, List, length, Result, Ok, Err, IfOk}
use Rattle.circuits.specs.Circuits.{Circuit}
use Rattle.circuits.specs.Levels.{IsAcyclic}
use Rattle.net_core.specs.Limits.{most_ports}
use Rattle.net_file.specs.declared.fault.NetKind.{NetKind}
use Rattle.net_file.specs.declared.fault.NetStop.{NetStop}
use Rattle.net_file.specs.declared.named.Named.{Named}
use Rattle.aiger_reader.proofs.OneAiger.{one_netlist, netlist_or_fault, one_fault}
use Rattle.aiger_reader.proofs.FewPorts.{few_outputs as few_in_aiger, few_inputs as few_inputs_in_aiger, names_of_ports, aiger_acyclic}
use Rattle.blif_reader.proofs.OneBlif.{one_netlist as one_blif, netlist_or_fault as blif_or_fault, one_fault as one_blif_fault}
use Rattle.blif_reader.proofs.FewPorts.{few_outputs as few_in_blif, few_inputs as few_inputs_in_blif, named_ports}
use Rattle.blif_reader.specs.Blif.{ReadAs as BlifReadAs}
use Rattle.check_steps.specs.Circuits.{BeginsAsAiger, IsCircuit, IsCircuitFault}
use Rattle.check_steps.specs.Reading.{ReadAs}

-- two facts of a file are by the same format
by_format : {P A B C D R : Type 0} → (A → C → R) → (B → D → R) → (P × A) ⊎ ((P → ⊥) × B) → (P × C) ⊎ ((P → ⊥) × D) → R
by_format aiger blif (inl (begins, a)) (inl (begins', c)) = aiger a c
by_format aiger blif (inl (begins, a)) (inr (not', d)) = absurd (not' begins)
by_format aiger blif (inr (not, b)) (inl (begins', c)) = absurd (not begins')
by_format aiger blif (inr (not, b)) (inr (not', d)) = blif b d

pub one_circuit : (bytes : List ℕ) (a b : Circuit) (i o j p : List (List ℕ)) → IsCircuit bytes a i o → IsCircuit bytes b j p → a ≡ b
one_circuit bytes a b i o j p = by_format (λ x y. (one_netlist bytes a b i o j p x y).0) (λ x y. (one_blif bytes a b i o j p x y).0)

pub circuit_or_fault : (bytes : List ℕ) (circuit : Circuit) (i o : List (List ℕ)) (kind : NetKind) (at : ℕ) → IsCircuit bytes circuit i o → IsCircuitFault bytes kind at → ⊥
circuit_or_fault bytes circuit i o kind at = by_format (netlist_or_fault bytes circuit i o kind at) (blif_or_fault bytes circuit i o kind at)

pub one_circuit_fault : (bytes : List ℕ) (kind other_kind : NetKind) (at place : ℕ) → IsCircuitFault bytes kind at → IsCircuitFault bytes other_kind place → (kind ≡ other_kind) × (at ≡ place)
one_circuit_fault bytes kind other_kind at place = by_format (one_fault bytes kind other_kind at place) (one_blif_fault bytes kind other_kind at place)

pub few_ports : (bytes : List ℕ) (circuit : Circuit) (i o : List (List ℕ)) → IsCircuit bytes circuit i o → (circuit.inputs ≤ most_ports) × (length circuit.outputs ≤ most_ports)
few_ports bytes circuit i o is =
    elim is [
      | inl (begins, aiger) ↦ (few_inputs_in_aiger bytes circuit i o aiger, few_in_aiger bytes circuit i o aiger)
      | inr (not, blif) ↦ (few_inputs_in_blif bytes circuit i o blif, few_in_blif bytes circuit i o blif)
    ]

-- each port has a name
pub ports_named : (bytes : List ℕ) (circuit : Circuit) (i o : List (List ℕ)) → IsCircuit bytes circuit i o → (length i ≡ circuit.inputs) × (length o ≡ length circuit.outputs)
ports_named bytes circuit i o is =
    elim is [ inl (begins, aiger) ↦ names_of_ports bytes circuit i o aiger | inr (not, blif) ↦ named_ports bytes circuit i o blif ]

pub circuit_acyclic : (bytes : List ℕ) (circuit : Circuit) (i o : List (List ℕ)) → IsCircuit bytes circuit i o → IsAcyclic circuit
circuit_acyclic bytes circuit i o is = elim is [ inl (begins, aiger) ↦ aiger_acyclic bytes circuit i o aiger | inr (not, blif) ↦ blif.acyclic ]

-- what the BLIF reader read is what the file is
pub blif_read : (bytes : List ℕ) (result : Result Named NetStop) → (BeginsAsAiger bytes → ⊥) → IfOk result (λ named. BlifReadAs bytes named.graph named.input_names named.output_names) → IfOk result (λ named. ReadAs bytes named.graph named.input_names named.output_names)
blif_read bytes (Ok named) not read = record { circuit = read.circuit; is = inr (not, read.is); computes = read.computes; numbered = read.numbered }
blif_read bytes (Err stop) not read = tt
