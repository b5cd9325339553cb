-- The names of a model of a BLIF text (Berkeley Logic Interchange Format, 1992): its ports, what its lines define and
-- what they read, in the order of the text.
use Rattle.std.specs.Prelude.{ℕ, Bool, List, [], ◌∷◌, ◌++◌, map, filter, slice_index_or}
use Rattle.std.specs.List.{flat_map, list_any, position_or_len}
use Rattle.std.specs.Str.{bytes_eq}
use Rattle.text_core.specs.Piece.{Piece}
use Rattle.circuits.specs.declared.port.PortKind.{PortKind}
use Rattle.circuits.specs.declared.port.PortKind.TheVariants.{Input, Output}
use Rattle.blif_reader.specs.declared.survey.PortWord.{PortWord}
use Rattle.blif_reader.specs.Names.{named_ports}
use Rattle.hier_blif.specs.declared.model.CoverLine.{CoverLine}
use Rattle.hier_blif.specs.declared.model.InstanceLine.{InstanceLine}
use Rattle.hier_blif.specs.declared.model.ModelLine.{ModelLine}
use Rattle.hier_blif.specs.declared.model.ModelLine.TheVariants.{Inputs, Outputs, Cover, Instance}
use Rattle.hier_blif.specs.declared.model.BlifModel.{BlifModel}
use Rattle.hier_blif.specs.Bindings.{formal_of, actual_of}
use Rattle.hier_blif.specs.Models.{no_name, empty_model}

-- the names of inputs, and those of outputs
abbrev pub inputs_on : ModelLine → List Piece
inputs_on (Inputs words) = words
inputs_on other = []

-- the names of a model's inputs, in the order of the text
abbrev pub inputs_of : BlifModel → List Piece
inputs_of model = flat_map inputs_on model.lines

-- the names that a line lists as outputs
abbrev pub outputs_on : ModelLine → List Piece
outputs_on (Outputs words) = words
outputs_on other = []

-- the names of a model's outputs, in the order of the text
abbrev pub outputs_of : BlifModel → List Piece
outputs_of model = flat_map outputs_on model.lines

-- ports of both kinds
abbrev pub ports_on : ModelLine → List PortWord
ports_on (Inputs words) = named_ports Input words
ports_on (Outputs words) = named_ports Output words
ports_on other = []

-- all ports of a model, in the order of the text
abbrev pub ports_of : BlifModel → List PortWord
ports_of model = flat_map ports_on model.lines

-- the covers of a model, and its instances
abbrev pub covers_on : ModelLine → List CoverLine
covers_on (Cover line) = line ∷ []
covers_on other = []

-- the covers that a model has itself, not in instances
abbrev pub covers_of : BlifModel → List CoverLine
covers_of model = flat_map covers_on model.lines

-- the instance that a `.subckt` line makes
abbrev pub instances_on : ModelLine → List InstanceLine
instances_on (Instance line) = line ∷ []
instances_on other = []

-- the instances that stand in the model itself, and not in others of them
abbrev pub instances_of : BlifModel → List InstanceLine
instances_of model = flat_map instances_on model.lines

-- the instances of all models
abbrev pub all_instances : List BlifModel → List InstanceLine
all_instances models = flat_map instances_of models

-- whether a name is that of one of these words
abbrev pub is_among : List ℕ → List Piece → Bool
is_among name words = list_any (λ word. bytes_eq name word.bytes) words

-- whether a model has a name
abbrev pub has_name : List ℕ → BlifModel → Bool
has_name name model = bytes_eq name model.name.bytes

-- the model that an instance is of: the first that has the name, or an empty one where none has it
abbrev pub model_of : List BlifModel → InstanceLine → BlifModel
model_of models line =
    slice_index_or models (position_or_len (has_name line.model.bytes) models) (empty_model 0 no_name)

-- the names of the ports of a kind
abbrev pub ports_of_kind : PortKind → BlifModel → List Piece
ports_of_kind Input model = inputs_of model
ports_of_kind Output model = outputs_of model

-- whether a word binds a port of a kind of the instance's model
abbrev pub binds_port : PortKind → List BlifModel → InstanceLine → Piece → Bool
binds_port kind models line word = is_among (formal_of word.bytes) (ports_of_kind kind (model_of models line))

-- whether a word binds an input of the instance's model
abbrev pub binds_input : List BlifModel → InstanceLine → Piece → Bool
binds_input models line word = is_among (formal_of word.bytes) (inputs_of (model_of models line))

-- whether a word binds an output of the instance's model
abbrev pub binds_output : List BlifModel → InstanceLine → Piece → Bool
binds_output models line word = is_among (formal_of word.bytes) (outputs_of (model_of models line))

-- the name to which a port is bound, at the place of the word that binds it
abbrev pub actual : Piece → Piece
actual word = record { bytes = actual_of word.bytes; at = word.at }

-- what a line defines: a `.names` line its last name, an instance the names to which outputs are bound
abbrev pub defined_on : List BlifModel → ModelLine → List Piece
defined_on models (Cover line) = line.defined ∷ []
defined_on models (Instance line) = map actual (filter (binds_output models line) line.bindings)
defined_on models other = []

-- all names that a model defines, by covers and by instances
abbrev pub defined_in : List BlifModel → BlifModel → List Piece
defined_in models model = flat_map (defined_on models) model.lines

-- what a line reads: outputs, operands, and the names to which inputs are bound
abbrev pub read_on : List BlifModel → ModelLine → List Piece
read_on models (Outputs words) = words
read_on models (Cover line) = line.operands
read_on models (Instance line) = map actual (filter (binds_input models line) line.bindings)
read_on models other = []

-- all names that a model reads, in the order of the text
abbrev pub read_in : List BlifModel → BlifModel → List Piece
read_in models model = flat_map (read_on models) model.lines

-- the names of a model: of its inputs, then of what it defines
abbrev pub names_in : List BlifModel → BlifModel → List Piece
names_in models model = inputs_of model ++ defined_in models model
