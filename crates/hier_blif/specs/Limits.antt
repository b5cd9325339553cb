-- The limits of a model's ports.
use Rattle.std.specs.Prelude.{◌≡◌, ◌<◌, ◌≤◌, ◌⊎◌, List, length}
use Rattle.std.specs.List.{flat_map}
use Rattle.text_core.specs.Piece.{Piece}
use Rattle.circuits.specs.declared.port.PortKind.{PortKind}
use Rattle.circuits.specs.declared.port.PortKind.TheVariants as port
use Rattle.net_core.specs.Limits.{most_ports}
use Rattle.blif_reader.specs.JoinedLines.{word_of}
use Rattle.hier_blif.specs.declared.fault.HierFault.{HierFault}
use Rattle.hier_blif.specs.declared.fault.HierKind.TheVariants as wrong
use Rattle.hier_blif.specs.declared.model.ModelLine.{ModelLine}
use Rattle.hier_blif.specs.LineFaults.{fault_at}
use Rattle.hier_blif.specs.Names.{inputs_on, outputs_on}

-- the words of a line that name ports of a kind
abbrev pub words_on : PortKind → ModelLine → List Piece
words_on port.Input = inputs_on
words_on port.Output = outputs_on

-- A model has no more inputs and no more outputs than a netlist may have.
pub record HasFewPorts (lines : List ModelLine) : Type 0 where
  pub inputs : length (flat_map inputs_on lines) ≤ most_ports
  pub outputs : length (flat_map outputs_on lines) ≤ most_ports

-- More inputs than the limit, at the first after it.
pub record HasManyInputs (lines : List ModelLine) (fault : HierFault) : Type 0 where
  pub many : most_ports < length (flat_map inputs_on lines)
  pub is : fault ≡ fault_at wrong.TooManyInputs (word_of (flat_map inputs_on lines) most_ports)

-- No more inputs, and more outputs than the limit.
pub record HasManyOutputs (lines : List ModelLine) (fault : HierFault) : Type 0 where
  pub few_inputs : length (flat_map inputs_on lines) ≤ most_ports
  pub many : most_ports < length (flat_map outputs_on lines)
  pub is : fault ≡ fault_at wrong.TooManyOutputs (word_of (flat_map outputs_on lines) most_ports)

-- more inputs than a netlist may have, or else more outputs
abbrev pub HasManyPorts : List ModelLine → HierFault → Type 0
HasManyPorts lines fault = HasManyInputs lines fault ⊎ HasManyOutputs lines fault
