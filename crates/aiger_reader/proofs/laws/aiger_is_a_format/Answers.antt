-- Each part is a lemma.
use Rattle.aiger_reader.proofs.OneAiger.{one_netlist, netlist_or_fault, one_fault}
use Rattle.aiger_reader.proofs.SomeAiger.{netlist_or_its_fault}
use Rattle.aiger_reader.proofs.FewPorts.{few_inputs, few_outputs, names_of_ports, aiger_closed, aiger_acyclic}
use Rattle.aiger_reader.proofs.laws.aiger_is_a_format.Goals as goal

pub returns : goal.returns
returns c = record {
  one = one_netlist;
  apart = netlist_or_fault;
  either = netlist_or_its_fault;
  one_fault = one_fault;
  closed = aiger_closed;
  acyclic = aiger_acyclic;
  inputs = few_inputs;
  outputs = few_outputs;
  names = names_of_ports;
}
