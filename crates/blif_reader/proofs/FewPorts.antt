-- For the law that a file's netlist has few ports, each with a name.
use Rattle.std.proofs.Common.{◌≡◌, ℕ, ◌≤◌, List, length, map, ap, sym, ◌∙◌, arith}
use Rattle.circuits.specs.Circuits.{Circuit}
use Rattle.circuits.specs.Netlists.{Net}
use Rattle.text_core.specs.Piece.{Piece}
use Rattle.blif_reader.specs.Names.{input_words, output_words}
use Rattle.blif_reader.specs.Covers.{signal_names, literal_named}
use Rattle.blif_reader.specs.Blif.{AreBlif, IsBlif, ReadAs, blif_lines}
use Rattle.std.proofs.lemmas.List.{length-map}
use Rattle.net_core.specs.Limits.{most_ports}

-- the bytes of words are as many as the words
name_count : (words : List Piece) (names : List (List ℕ)) → names ≡ map (λ word. word.bytes) words → length names ≡ length words
name_count words names h = ap length h ∙ length-map words (λ (word : Piece). word.bytes)

module _ (lines : List (List Piece)) (circuit : Circuit) (i o : List (List ℕ)) (is : AreBlif lines circuit i o) where
  input_count : circuit.inputs ≡ length (input_words lines)
  input_count = ap (λ (c : Circuit). c.inputs) is.same

  output_count : length circuit.outputs ≡ length (output_words lines)
  output_count =
      ap (λ (c : Circuit). length c.outputs) is.same ∙ length-map (output_words lines) (literal_named (signal_names lines))

pub few_inputs : (bytes : List ℕ) (circuit : Circuit) (i o : List (List ℕ)) → IsBlif bytes circuit i o → circuit.inputs ≤ most_ports
few_inputs bytes circuit i o is = omega (arith, is.names.inputs, input_count (blif_lines bytes) circuit i o is)

pub few_outputs : (bytes : List ℕ) (circuit : Circuit) (i o : List (List ℕ)) → IsBlif bytes circuit i o → length circuit.outputs ≤ most_ports
few_outputs bytes circuit i o is = omega (arith, is.names.outputs, output_count (blif_lines bytes) circuit i o is)

pub named_ports : (bytes : List ℕ) (circuit : Circuit) (i o : List (List ℕ))
    → IsBlif bytes circuit i o
    → (length i ≡ circuit.inputs) × (length o ≡ length circuit.outputs)
named_ports bytes circuit i o is =
    let lines = blif_lines bytes in
    let inputs = name_count (input_words lines) i is.input_names_are in
    let outputs = name_count (output_words lines) o is.output_names_are in
    (inputs ∙ sym (input_count lines circuit i o is), outputs ∙ sym (output_count lines circuit i o is))

-- so the graph that a file is read as has a name for each port
pub named_graph : (bytes : List ℕ) (net : Net) (i o : List (List ℕ))
    → ReadAs bytes net i o
    → (length i ≡ net.inputs) × (length o ≡ length net.outputs)
named_graph bytes net i o read =
    let named = named_ports bytes read.circuit i o read.is in
    (named.0 ∙ sym read.computes.inputs, named.1 ∙ sym read.computes.outputs)
