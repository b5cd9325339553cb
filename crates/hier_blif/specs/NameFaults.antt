-- What is wrong with the names of a file of models, and where: each kind of fault in the order of the text, the kinds
-- in a fixed order (this project's order).
use Rattle.std.specs.Prelude.{ℕ, ◌&&◌, Bool, true, false, not, List, [], ◌∷◌, ◌++◌, map, if◌then◌else◌}
use Rattle.std.specs.Bool.{beq}
use Rattle.std.specs.List.{flat_map, list_any}
use Rattle.std.specs.Str.{bytes_eq}
use Rattle.text_core.specs.Piece.{Piece}
use Rattle.blif_reader.specs.declared.survey.PortWord.{PortWord}
use Rattle.blif_reader.specs.Names.{repeats_port, is_redefined, is_undefined}
use Rattle.hier_blif.specs.declared.fault.HierFault.{HierFault}
use Rattle.hier_blif.specs.declared.fault.HierKind.{HierKind}
use Rattle.hier_blif.specs.declared.fault.HierKind.TheVariants as wrong
use Rattle.hier_blif.specs.declared.model.InstanceLine.{InstanceLine}
use Rattle.hier_blif.specs.declared.model.ModelLine.{ModelLine}
use Rattle.hier_blif.specs.declared.model.ModelLine.TheVariants.{Inputs, Outputs}
use Rattle.hier_blif.specs.declared.model.BlifModel.{BlifModel}
use Rattle.hier_blif.specs.Bindings.{formal_of}
use Rattle.hier_blif.specs.LineFaults.{fault_at}
use Rattle.hier_blif.specs.Names.{ports_of, inputs_of, all_instances, has_name, model_of, binds_input, binds_output, defined_in, read_in}

-- the elements that a test finds, which sees the elements before them too
abbrev pub found_after : {X : Type 0} → (List X → X → Bool) → List X → List X → List X
found_after test earlier [] = []
found_after test earlier (x ∷ xs) =
    if test earlier x then x ∷ found_after test (earlier ++ x ∷ []) xs
    else found_after test (earlier ++ x ∷ []) xs

-- all elements of a list that a test finds
abbrev pub found_in : {X : Type 0} → (List X → X → Bool) → List X → List X
found_in test xs = found_after test [] xs

-- a fault where the test says so
abbrev pub when : Bool → HierKind → ℕ → List HierFault
when test kind at = if test then record { kind = kind; at = at } ∷ [] else []

-- a fault at each of these words
abbrev pub at_words : HierKind → List Piece → List HierFault
at_words kind words = map (fault_at kind) words

-- a fault at each of these words of which the test says so
abbrev pub where_wrong : HierKind → (Piece → Bool) → List Piece → List HierFault
where_wrong kind test words = flat_map (λ word. when (test word) kind word.at) words

-- 28: a model without an `.inputs` line or without an `.outputs` line
abbrev pub is_inputs_line : ModelLine → Bool
is_inputs_line (Inputs words) = true
is_inputs_line other = false

-- the line lists outputs
abbrev pub is_outputs_line : ModelLine → Bool
is_outputs_line (Outputs words) = true
is_outputs_line other = false

-- the model has no line for its inputs, or none for its outputs
abbrev pub lacks_ports : BlifModel → Bool
lacks_ports model = not (list_any is_inputs_line model.lines && list_any is_outputs_line model.lines)

-- a model that lacks such a line is refused where it begins
abbrev pub port_line_faults : BlifModel → List HierFault
port_line_faults model = when (lacks_ports model) wrong.NoPortLine model.at

-- 29: a name of two ports of a kind
abbrev pub repeated_ports : List PortWord → List HierFault
repeated_ports ports = at_words wrong.DuplicatePort (map (λ port. port.word) (found_in repeats_port ports))

-- a model is refused at each port that has the name of an earlier one of its kind
abbrev pub port_faults : BlifModel → List HierFault
port_faults model = repeated_ports (ports_of model)

-- 41: an instance of no model
abbrev pub model_faults : List BlifModel → InstanceLine → List HierFault
model_faults models line = when (not (list_any (has_name line.model.bytes) models)) wrong.NoModel line.model.at

-- 43: what is bound is no port of the model, or both an input and an output of it
abbrev pub binds_no_port : List BlifModel → InstanceLine → Piece → Bool
binds_no_port models line word = beq (binds_input models line word) (binds_output models line word)

-- an instance is refused at each binding that names no single port of its model
abbrev pub formal_faults : List BlifModel → InstanceLine → List HierFault
formal_faults models line = where_wrong wrong.Formal (binds_no_port models line) line.bindings

-- 44: what is bound was bound before
abbrev pub binds_again : List Piece → Piece → Bool
binds_again earlier word = list_any (λ other. bytes_eq (formal_of word.bytes) (formal_of other.bytes)) earlier

-- an instance is refused at each binding of a port that an earlier one binds
abbrev pub twice_faults : InstanceLine → List HierFault
twice_faults line = at_words wrong.FormalTwice (found_in binds_again line.bindings)

-- 45: some input of the model isn't bound
abbrev pub binds : InstanceLine → Piece → Bool
binds line input = list_any (λ word. bytes_eq input.bytes (formal_of word.bytes)) line.bindings

-- some input of the instance's model gets no value
abbrev pub leaves_unbound : List BlifModel → InstanceLine → Bool
leaves_unbound models line = list_any (λ input. not (binds line input)) (inputs_of (model_of models line))

-- an instance that leaves an input unbound is refused at its line
abbrev pub unbound_faults : List BlifModel → InstanceLine → List HierFault
unbound_faults models line = when (leaves_unbound models line) wrong.Unbound line.at

-- 30: an input of the model is defined, or a name that was defined before
abbrev pub redefined_faults : List BlifModel → BlifModel → List HierFault
redefined_faults models model =
    at_words wrong.Redefined (found_in (is_redefined (inputs_of model)) (defined_in models model))

-- 31: a name is read that is no input and isn't defined
abbrev pub undefined_faults : List BlifModel → BlifModel → List HierFault
undefined_faults models model =
    where_wrong wrong.Undefined (is_undefined (inputs_of model) (defined_in models model) []) (read_in models model)

-- each kind in the order of the text, one kind after the other: the first of all decides
abbrev pub name_faults : List BlifModel → List HierFault
name_faults models =
    let lines = all_instances models in
    flat_map port_line_faults models
    ++ (flat_map port_faults models
    ++ (flat_map (model_faults models) lines
    ++ (flat_map (formal_faults models) lines
    ++ (flat_map twice_faults lines
    ++ (flat_map (unbound_faults models) lines
    ++ (flat_map (redefined_faults models) models
    ++ flat_map (undefined_faults models) models))))))
