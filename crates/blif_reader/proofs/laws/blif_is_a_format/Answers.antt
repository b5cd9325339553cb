-- Each part is a lemma.
use Rattle.blif_reader.proofs.OneBlif.{one_netlist, netlist_or_fault, one_fault}
use Rattle.blif_reader.proofs.SomeBlif.{netlist_or_its_fault}
use Rattle.blif_reader.proofs.BlifLemmas.{closed_blif}
use Rattle.blif_reader.proofs.FewPorts.{few_inputs, few_outputs, named_ports}
use Rattle.blif_reader.proofs.laws.blif_is_a_format.Goals as goal

pub returns : goal.returns
returns c = record {
  one = one_netlist;
  apart = netlist_or_fault;
  either = netlist_or_its_fault;
  one_fault = one_fault;
  closed = closed_blif;
  acyclic = λ bytes circuit i o is. is.acyclic;
  inputs = few_inputs;
  outputs = few_outputs;
  names = named_ports;
}
