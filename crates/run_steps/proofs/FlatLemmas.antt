-- What models are flattened to can be printed: it is within the limits, and its ports' names are words.
use Rattle.std.proofs.Common.{◌≡◌, ℕ, Bool, true, false, List, [], ◌∷◌, ◌++◌, length, get_or, drop, map, All, if◌then◌else◌, refl, sym, ap, subst, ◌∙◌, arith}
use Rattle.std.specs.List.{flat_map}
use Rattle.std.proofs.lemmas.Grind.{flat_map-append}
use Rattle.std.proofs.lemmas.List.{length-map}
use Rattle.std.proofs.lemmas.List.Elements.{All-nil, All-cons, All-head, All-tail, All-append, All-drop, All-map, All-take, Contains-get_or}
use Rattle.text_core.specs.Piece.{Piece}
use Rattle.circuits.specs.Circuits.{Circuit, IsClosed}
use Rattle.circuits.specs.Functions.{Computes, as_circuit}
use Rattle.circuits.specs.Literals.{plain_literal}
use Rattle.circuits.specs.Netlists.{IsOrdered}
use Rattle.circuits.proofs.AsCircuit.{as_circuit-computed}
use Rattle.circuits.proofs.GateCounts.{gates_in_order}
use Rattle.circuits.proofs.LevelOrders.{IsOrderOf-computes, IsOrderOf-ordered}
use Rattle.net_file.specs.declared.named.Named.{Named}
use Rattle.net_print.specs.Files.{aag_text}
use Rattle.print_laws.specs.Printable.{IsPrintable, IsSymbolName}
use Rattle.print_laws.proofs.Aag.{aag_is}
use Rattle.print_laws.proofs.ReadNames.{IsGoodWord, blif_words_good, good_symbol}
use Rattle.blif_reader.specs.Blif.{blif_lines}
use Rattle.blif_reader.specs.Directives.{directive_of, is_model}
use Rattle.blif_reader.specs.Rows.{rows_of}
use Rattle.blif_reader.specs.declared.directive.Directive.{Directive}
use Rattle.blif_reader.specs.declared.directive.Directive.TheVariants as directive
use Rattle.hier_blif.specs.declared.model.BlifModel.{BlifModel}
use Rattle.hier_blif.specs.Hierarchies.{ReadAs}
use Rattle.hier_blif.specs.Models.{begun_by, body, empty_model, front_model, has_front, model_line, model_lines, models_of, named_models, no_name, top_of}
use Rattle.hier_blif.specs.Names.{inputs_of, inputs_on, outputs_of, outputs_on}
use Rattle.hier_blif.proofs.ClosedLemmas.{closed_flat}
use Rattle.hier_blif.proofs.WellNamedLemmas.{well_named}
use Rattle.hier_blif.proofs.WholeLemmas.{some_model}
use Rattle.hier_blif.proofs.WideLemmas.{models_wide}
use Rattle.run_steps.specs.Flatten.{IsFileOfFlat}

-- the names of ports: words of the models' lines

abbrev AreGood : List (List Piece) → Type 0
AreGood lines = All (All IsGoodWord) lines

body_good : (lines : List (List Piece)) → AreGood lines → AreGood (body lines)
body_good lines good = All-take (All IsGoodWord) _ lines good

inputs_on_line : (d : Directive) (line : List Piece) (rows : List (List Piece)) → All IsGoodWord line → All IsGoodWord (flat_map inputs_on (model_line d line rows))
inputs_on_line directive.Inputs line rows good = All-append IsGoodWord (drop 1 line) [] (All-drop IsGoodWord 1 line good) (All-nil IsGoodWord)
inputs_on_line other line rows good = All-nil IsGoodWord

outputs_on_line : (d : Directive) (line : List Piece) (rows : List (List Piece)) → All IsGoodWord line → All IsGoodWord (flat_map outputs_on (model_line d line rows))
outputs_on_line directive.Outputs line rows good = All-append IsGoodWord (drop 1 line) [] (All-drop IsGoodWord 1 line good) (All-nil IsGoodWord)
outputs_on_line other line rows good = All-nil IsGoodWord

inputs_good : (lines : List (List Piece)) → AreGood lines → All IsGoodWord (flat_map inputs_on (model_lines lines))
inputs_good [] good = All-nil IsGoodWord
inputs_good (line ∷ lines) good =
    let first = model_line (directive_of line) line (rows_of lines) in
    subst (All IsGoodWord) (sym (flat_map-append inputs_on first (model_lines lines)))
    (All-append IsGoodWord (flat_map inputs_on first) (flat_map inputs_on (model_lines lines)) (inputs_on_line (directive_of line) line (rows_of lines) (All-head (All IsGoodWord) line lines good))
    (inputs_good lines (All-tail (All IsGoodWord) line lines good)))

outputs_good : (lines : List (List Piece)) → AreGood lines → All IsGoodWord (flat_map outputs_on (model_lines lines))
outputs_good [] good = All-nil IsGoodWord
outputs_good (line ∷ lines) good =
    let first = model_line (directive_of line) line (rows_of lines) in
    subst (All IsGoodWord) (sym (flat_map-append outputs_on first (model_lines lines)))
    (All-append IsGoodWord (flat_map outputs_on first) (flat_map outputs_on (model_lines lines)) (outputs_on_line (directive_of line) line (rows_of lines) (All-head (All IsGoodWord) line lines good))
    (outputs_good lines (All-tail (All IsGoodWord) line lines good)))

abbrev HasGoodPorts : BlifModel → Type 0
HasGoodPorts model = All IsGoodWord (inputs_of model) × All IsGoodWord (outputs_of model)

-- a model of these lines
of_lines : (lines : List (List Piece)) (model : BlifModel) → model.lines ≡ model_lines (body lines) → AreGood lines → HasGoodPorts model
of_lines lines model is good = (
  subst (λ all. All IsGoodWord (flat_map inputs_on all)) (sym is) (inputs_good (body lines) (body_good lines good)),
  subst (λ all. All IsGoodWord (flat_map outputs_on all)) (sym is) (outputs_good (body lines) (body_good lines good)),
)

named_by : (t : Bool) (line : List Piece) (lines : List (List Piece)) → AreGood lines → All HasGoodPorts (named_models lines) → All HasGoodPorts (if t then begun_by line lines ∷ named_models lines else named_models lines)
named_by true line lines good rest = All-cons HasGoodPorts (begun_by line lines) (named_models lines) (of_lines lines (begun_by line lines) refl good) rest
named_by false line lines good rest = rest

named_good : (lines : List (List Piece)) → AreGood lines → All HasGoodPorts (named_models lines)
named_good [] good = All-nil HasGoodPorts
named_good (line ∷ lines) good =
    let rest = All-tail (All IsGoodWord) line lines good in
    named_by (is_model (directive_of line)) line lines rest (named_good lines rest)

front_by : (t : Bool) (lines : List (List Piece)) → AreGood lines → All HasGoodPorts (if t then front_model lines ∷ named_models lines else named_models lines)
front_by true lines good = All-cons HasGoodPorts (front_model lines) (named_models lines) (of_lines lines (front_model lines) refl good) (named_good lines good)
front_by false lines good = named_good lines good

top_good : (lines : List (List Piece)) → AreGood lines → HasGoodPorts (top_of (models_of lines))
top_good lines good = front_by (has_front lines) lines good 0 (empty_model 0 no_name) (some_model lines)

as_symbols : (words : List Piece) (names : List (List ℕ)) → names ≡ map (λ word. word.bytes) words → All IsGoodWord words → All IsSymbolName names
as_symbols words names are good = subst (All IsSymbolName) (sym are) (All-map IsSymbolName (λ (word : Piece). word.bytes) words (λ k d h. good_symbol (get_or words k d) (good k d h)))

-- a file of models was read as this netlist
module _ (file : List ℕ) (flat : Named) (models instances : ℕ) (is : ReadAs file flat.graph flat.input_names flat.output_names models instances) where
  abbrev lines : List (List Piece)
  lines = blif_lines file

  abbrev top : BlifModel
  top = top_of (models_of lines)

  closed : IsClosed is.circuit
  closed =
      let hierarchy = is.is in
      let named = hierarchy.few.small.deep.named in
      let flattened = hierarchy.flattened in
      subst IsClosed (sym flattened.is) (closed_flat (models_of lines) top is.depth flattened.signal (record {
        well = well_named (models_of lines) named.named;
        held = Contains-get_or (models_of lines) 0 (empty_model 0 no_name) (some_model lines);
        deep = hierarchy.few.small.within;
        numbering = flattened.numbered;
      }) (models_wide lines named.sound))

  computed : Computes flat.graph is.circuit
  computed = IsOrderOf-computes is.circuit flat.graph is.is.acyclic closed is.numbered

  ordered : IsOrdered flat.graph
  ordered = IsOrderOf-ordered is.circuit flat.graph is.is.acyclic closed is.numbered

  -- as many outputs as the top has
  outputs_are : length flat.graph.outputs ≡ length (outputs_of top)
  outputs_are =
      computed.outputs ∙ (ap (λ (c : Circuit). length c.outputs) is.is.flattened.is ∙ length-map (outputs_of top) (λ (word : Piece). plain_literal (is.is.flattened.signal [] word.bytes)))

  printable : IsPrintable flat
  printable =
      let few = is.is.few in
      let ports = top_good lines (blif_words_good file) in
      record {
        within = record {
          ordered = ordered;
          inputs = omega (arith, few.inputs, is.function.inputs);
          outputs = omega (arith, few.outputs, outputs_are);
          gates = omega (arith, is.is.few_gates, gates_in_order is.circuit flat.graph closed is.numbered);
        };
        inputs_named = ap length is.input_names_are ∙ (length-map (inputs_of top) (λ (word : Piece). word.bytes) ∙ sym is.function.inputs);
        outputs_named = ap length is.output_names_are ∙ (length-map (outputs_of top) (λ (word : Piece). word.bytes) ∙ sym outputs_are);
        input_names = as_symbols (inputs_of top) flat.input_names is.input_names_are ports.0;
        output_names = as_symbols (outputs_of top) flat.output_names is.output_names_are ports.1;
      }

  -- so what is printed is a file of it
  pub file_of_flat : IsFileOfFlat flat (aag_text flat)
  file_of_flat = record {
    text = refl;
    file = aag_is flat printable;
    computes = as_circuit-computed flat.graph ordered;
  }
