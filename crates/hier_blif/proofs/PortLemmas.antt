-- For `names`: the ports of a model, and the first that is named again.
use Rattle.std.proofs.Common.{◌≡◌, ℕ, true, false, cond, List, [], ◌∷◌, ◌++◌, length, map, take, Option, Some, refl, ap, sym, ◌∙◌, arith}
use Rattle.std.specs.Prelude.{filter}
use Rattle.std.specs.List.{flat_map}
use Rattle.std.proofs.lemmas.List.{map-append, take_all}
use Rattle.std.proofs.lemmas.List.Elements.{filter-append}
use Rattle.text_core.specs.Piece.{Piece, front}
use Rattle.circuits.specs.declared.port.PortKind.{PortKind}
use Rattle.circuits.specs.declared.port.PortKind.TheVariants.{Input, Output}
use Rattle.net_file.specs.declared.fault.NetKind.{NetKind}
use Rattle.blif_reader.specs.declared.survey.PortWord.{PortWord}
use Rattle.blif_reader.specs.declared.names.PortNames.{PortNames}
use Rattle.blif_reader.specs.Names.{is_same_kind, named_ports, repeats_port}
use Rattle.blif_reader.specs.Numbers.{names_of, bytes_of, port_names, AreNamed, IsRepeatedPort}
use Rattle.hier_blif.specs.declared.fault.HierFault.{HierFault}
use Rattle.hier_blif.specs.declared.fault.HierKind.TheVariants as wrong
use Rattle.hier_blif.specs.declared.model.ModelLine.{ModelLine}
use Rattle.hier_blif.specs.declared.model.ModelLine.TheVariants.{Inputs, Outputs, Cover, Instance}
use Rattle.hier_blif.specs.declared.model.BlifModel.{BlifModel}
use Rattle.hier_blif.specs.Stops.{first_of}
use Rattle.hier_blif.specs.Names.{ports_on, ports_of, inputs_on, outputs_on}
use Rattle.hier_blif.specs.NameFaults.{at_words, repeated_ports, port_faults}
use Rattle.hier_blif.specs.Scopes.{HasPorts}
use Rattle.hier_blif.proofs.FindLemmas.{none_found, first_found}

abbrev piece_at : ℕ → List ℕ → Piece
piece_at at bytes = record { bytes = bytes; at = at }

-- a word of which as many bytes are taken as it has
pub whole_front : (word : Piece) → front (length word.bytes) word ≡ word
whole_front word = ap (piece_at word.at) (take_all (length word.bytes) word.bytes (omega arith))

abbrev port_fault : ℕ → Option HierFault
port_fault at = Some (record { kind = wrong.DuplicatePort; at = at })

abbrev no_port : PortWord
no_port = record { kind = Input; word = record { bytes = []; at = 0 } }

-- a port that is named again is the first that is found
pub first_repeated : (ports : List PortWord) (kind : NetKind) (at : ℕ) → IsRepeatedPort ports kind at → first_of (repeated_ports ports) ≡ Some (record { kind = wrong.DuplicatePort; at = at })
first_repeated ports kind at is =
    let found = first_found repeats_port [] ports is.place no_port is.first.there (λ k less. is.first.none_before k no_port less) (is.first.here no_port) in
    ap (λ (ps : List PortWord). first_of (at_words wrong.DuplicatePort (map (λ (p : PortWord). p.word) ps))) found.1 ∙ ap port_fault (sym (is.offset no_port))

none_repeated : (ports : List PortWord) (inputs outputs : List (List ℕ)) → AreNamed ports (length ports) inputs outputs → repeated_ports ports ≡ []
none_repeated ports inputs outputs named =
    ap (λ (ps : List PortWord). at_words wrong.DuplicatePort (map (λ (p : PortWord). p.word) ps)) (none_found repeats_port [] ports (λ k d below. named.once k d below))

-- the names of ports of a kind
port_names-append : (kind : PortKind) (xs ys : List PortWord) → port_names kind (xs ++ ys) ≡ port_names kind xs ++ port_names kind ys
port_names-append kind xs ys =
    let test = λ (p : PortWord). is_same_kind p.kind kind in
    ap (map (λ (p : PortWord). p.word.bytes)) (filter-append test xs ys) ∙ map-append (λ (p : PortWord). p.word.bytes) (filter test xs) (filter test ys)

of_same_kind : (kind other : PortKind) (words : List Piece) → is_same_kind other kind ≡ true → port_names kind (named_ports other words) ≡ bytes_of words
of_same_kind kind other [] same = refl
of_same_kind kind other (word ∷ words) same =
    let rest = filter (λ (p : PortWord). is_same_kind p.kind kind) (named_ports other words) in
    ap (λ t. map (λ (p : PortWord). p.word.bytes) (cond t (record { kind = other; word = word } ∷ rest) rest)) same
    ∙ ap (λ ns. word.bytes ∷ ns) (of_same_kind kind other words same)

of_other_kind : (kind other : PortKind) (words : List Piece) → is_same_kind other kind ≡ false → port_names kind (named_ports other words) ≡ []
of_other_kind kind other [] apart = refl
of_other_kind kind other (word ∷ words) apart =
    let rest = filter (λ (p : PortWord). is_same_kind p.kind kind) (named_ports other words) in
    ap (λ t. map (λ (p : PortWord). p.word.bytes) (cond t (record { kind = other; word = word } ∷ rest) rest)) apart
    ∙ of_other_kind kind other words apart

inputs_line : (line : ModelLine) → port_names Input (ports_on line) ≡ bytes_of (inputs_on line)
inputs_line (Inputs words) = of_same_kind Input Input words refl
inputs_line (Outputs words) = of_other_kind Input Output words refl
inputs_line (Cover line) = refl
inputs_line (Instance line) = refl

outputs_line : (line : ModelLine) → port_names Output (ports_on line) ≡ bytes_of (outputs_on line)
outputs_line (Inputs words) = of_other_kind Output Input words refl
outputs_line (Outputs words) = of_same_kind Output Output words refl
outputs_line (Cover line) = refl
outputs_line (Instance line) = refl

names_on_lines : (kind : PortKind) (words_on : ModelLine → List Piece) (lines : List ModelLine) → ((line : ModelLine) → port_names kind (ports_on line) ≡ bytes_of (words_on line)) → port_names kind (flat_map ports_on lines) ≡ bytes_of (flat_map words_on lines)
names_on_lines kind words_on [] each = refl
names_on_lines kind words_on (line ∷ lines) each =
    port_names-append kind (ports_on line) (flat_map ports_on lines)
    ∙ (ap (λ ns. ns ++ port_names kind (flat_map ports_on lines)) (each line)
    ∙ (ap (λ ns. bytes_of (words_on line) ++ ns) (names_on_lines kind words_on lines each)
    ∙ sym (map-append (λ (w : Piece). w.bytes) (words_on line) (flat_map words_on lines))))

-- the ports of a model, named
pub no_port_faults : (model : BlifModel) (ports : List PortWord) (inputs outputs : List (List ℕ)) → ports ≡ ports_of model → AreNamed ports (length ports) inputs outputs → port_faults model ≡ []
no_port_faults model ports inputs outputs is named =
    ap repeated_ports (sym is) ∙ none_repeated ports inputs outputs named

pub has_ports : (model : BlifModel) (ports : List PortWord) (names : PortNames) → ports ≡ ports_of model → AreNamed ports (length ports) (names_of names.inputs) (names_of names.outputs) → HasPorts model names
has_ports model ports names is named =
    let whole : take (length ports) ports ≡ ports_of model = take_all (length ports) ports (omega arith) ∙ is in
    record {
      inputs = named.inputs_are ∙ (ap (port_names Input) whole ∙ names_on_lines Input inputs_on model.lines inputs_line);
      outputs = named.outputs_are ∙ (ap (port_names Output) whole ∙ names_on_lines Output outputs_on model.lines outputs_line);
    }
