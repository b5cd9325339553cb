-- For `whole`: what is known of a file's models, of the flat circuit and of its graph, is what is said of the file.
use Rattle.std.proofs.Common.{◌≡◌, ℕ, zero, suc, ◌+◌, ◌^◌, ◌<◌, ◌≤◌, ◌||◌, Bool, true, false, not, cond, List, [], ◌∷◌, length, get_or, map, All, refl, ap, sym, subst, ◌∙◌, inl, inr, arith}
use Rattle.std.specs.List.{list_any}
use Rattle.std.proofs.lemmas.List.{length-map, get_or-map}
use Rattle.std.proofs.lemmas.List.Elements.{All-weaker, Contains-get_or}
use Rattle.std.proofs.lemmas.List.Sums.{AllPass-from_list_all, list_all-from_AllPass}
use Rattle.std.proofs.lemmas.Simd.{map-map}
use Rattle.text_core.specs.Piece.{Piece}
use Rattle.circuits.specs.declared.netlist.Lit.{Lit}
use Rattle.circuits.specs.declared.definition.Def.{Def}
use Rattle.circuits.specs.Literals.{plain_literal}
use Rattle.circuits.specs.Netlists.{Net}
use Rattle.circuits.specs.Circuits.{Circuit, IsClosed}
use Rattle.circuits.specs.Expansion.{gates_in}
use Rattle.circuits.specs.Functions.{Computes}
use Rattle.circuits.specs.Levels.{IsAcyclic, IsFirstLooped, IsOrderOf}
use Rattle.circuits.proofs.GateCounts.{gates_in_order}
use Rattle.net_core.specs.Limits.{most_gates}
use Rattle.blif_reader.specs.Directives.{directive_of, is_model}
use Rattle.blif_reader.specs.Faults.{has_line}
use Rattle.blif_reader.specs.Blif.{blif_lines}
use Rattle.hier_blif.specs.declared.fault.HierFault.{HierFault}
use Rattle.hier_blif.specs.declared.fault.HierKind.{HierKind}
use Rattle.hier_blif.specs.declared.fault.HierKind.TheVariants as wrong
use Rattle.hier_blif.specs.declared.model.InstanceLine.{InstanceLine}
use Rattle.hier_blif.specs.declared.model.BlifModel.{BlifModel}
use Rattle.hier_blif.specs.declared.frames.Frame.{Frame}
use Rattle.net_file.specs.declared.named.Named.{Named}
use Rattle.hier_blif.specs.declared.checks.CheckedModels.{CheckedModels}
use Rattle.hier_blif.specs.declared.sizes.Size.{Size}
use Rattle.hier_blif.specs.declared.flattening.Flat.{Flat}
use Rattle.hier_blif.specs.Models.{no_name, empty_model, named_models, has_front, models_of, top_of}
use Rattle.hier_blif.specs.LineFaults.{AreSound}
use Rattle.hier_blif.specs.Names.{inputs_of, outputs_of, instances_of, model_of}
use Rattle.hier_blif.specs.NameFaults.{name_faults}
use Rattle.hier_blif.specs.Depths.{is_within, instances_within, covers_within, size_within}
use Rattle.hier_blif.specs.Flattening.{FlatCover, flat_covers, flat_def, flat_circuit}
use Rattle.hier_blif.specs.Signals.{signal_of_top}
use Rattle.hier_blif.specs.Hierarchies.{most_parts, AreSmall, AreFew, AreFlattened, covers_of_top, IsFaultOfLines, IsHierFault, ReadAs}
use Rattle.hier_blif.specs.Scopes.{model_at}
use Rattle.hier_blif.specs.Order.{IsBottomUp}
use Rattle.hier_blif.specs.Sizes.{capped, IsSize}
use Rattle.hier_blif.specs.Checks.{AreChecked, IsModelFault}
use Rattle.hier_blif.specs.Checked.{IsCheckOf}
use Rattle.hier_blif.specs.Limits.{HasManyPorts}
use Rattle.hier_blif.specs.Widths.{HasWideCovers}
use Rattle.hier_blif.specs.Frames.{own_signal, IsNameOf, FlatEntry, flat_entry, defs_of, places_of, frame_left, IsTop, IsTopFrame, IsFlatOf}
use Rattle.hier_blif.specs.Files.{IsFlatFile, IsGraphOf, IsNamedOf}
use Rattle.hier_blif.proofs.AgreeLemmas.{IsNameIn, outputs_among_read}
use Rattle.hier_blif.proofs.WellNamedLemmas.{well_named}
use Rattle.hier_blif.proofs.ApartNamedLemmas.{named_apart}
use Rattle.hier_blif.proofs.SignalLemmas.{numbering}
use Rattle.hier_blif.proofs.FlatLemmas.{IsNumbered, map_same, flat_function}
use Rattle.hier_blif.proofs.DepthLemmas.{same_size}
use Rattle.hier_blif.proofs.OrderLemmas.{within_order}
use Rattle.hier_blif.proofs.WideLemmas.{models_wide}
use Rattle.hier_blif.proofs.CountLemmas.{counted}
use Rattle.hier_blif.proofs.ClosedLemmas.{closed_flat}

-- a file has a model
named_by : (t : Bool) (n : ℕ) (model : BlifModel) (named : List BlifModel) → (t ≡ false → 0 < length named) → 0 < length (cond t (model ∷ named) named)
named_by true n model named rest = omega arith
named_by false n model named rest = rest refl

named_some : (lines : List (List Piece)) → list_any (λ line. is_model (directive_of line)) lines ≡ true → 0 < length (named_models lines)
named_some [] h = absurd (cc h)
named_some (line ∷ lines) h =
    named_by (is_model (directive_of line)) 0 _ (named_models lines) (λ none. named_some lines (sym (ap (λ t. t || list_any (λ other. is_model (directive_of other)) lines) none) ∙ h))

has_model : (one other : Bool) → (one || not other) ≡ false → other ≡ true
has_model one true h = refl
has_model true false h = cc h
has_model false false h = cc h

pub some_model : (lines : List (List Piece)) → 0 < length (models_of lines)
some_model lines =
    named_by (has_front lines) 0 _ (named_models lines) (λ none. named_some lines (has_model _ (has_line is_model lines) none))

-- a model within a depth is within a greater one
pub within_more : (l : ℕ) (models : List BlifModel) (model : BlifModel) → is_within models l model ≡ true → is_within models (suc l) model ≡ true
within_more zero models model h = absurd (cc h)
within_more (suc l) models model h =
    let less = λ (line : InstanceLine). is_within models l (model_of models line) in
    let more = λ (line : InstanceLine). is_within models (suc l) (model_of models line) in
    list_all-from_AllPass more (instances_of model) (All-weaker (λ line. less line ≡ true) (λ line. more line ≡ true) (λ line. within_more l models (model_of models line)) (instances_of model) (AllPass-from_list_all less (instances_of model) h))

-- and the first is within the depth that the order gives
pub top_within : (models : List BlifModel) (order : List ℕ) → 0 < length models → IsBottomUp models order → is_within models (suc (length order)) (model_at models 0) ≡ true
top_within models order some is =
    within_more (length order) models (model_at models 0) (within_order models order 0 is.listing (is.whole 0 some))

size_at : (models : List BlifModel) (depth : ℕ) → AreChecked models → is_within models depth (model_at models 0) ≡ true → size_within models depth (model_at models 0) ≤ most_parts
size_at models depth are within =
    subst (λ n. n ≤ most_parts) (same_size are.small.depth depth models (model_at models 0) are.small.within within) are.small.small

pub top_is : (models : List BlifModel) (depth : ℕ) → 0 < length models → AreChecked models → is_within models (suc depth) (model_at models 0) ≡ true → IsTop models depth
top_is models depth some are within = record {
  there = some;
  within = within;
  few = omega (arith, size_at models (suc depth) are within);
  inputs = are.few.inputs;
  outputs = are.few.outputs;
}

pub few_at : (lines : List (List Piece)) (depth : ℕ) → AreSound lines → AreChecked (models_of lines) → is_within (models_of lines) depth (top_of (models_of lines)) ≡ true → AreFew lines depth
few_at lines depth sound are within = record {
  small = record {
    deep = record {
      named = record { sound = sound; named = are.small.checked.named };
      deep = are.small.checked.deep;
    };
    within = within;
    small = size_at (models_of lines) depth are within;
  };
  inputs = are.few.inputs;
  outputs = are.few.outputs;
}

-- a fault of models is one of the file
pub fault_of_models : (end : ℕ) (lines : List (List Piece)) (fault : HierFault) → AreSound lines → IsModelFault end (models_of lines) fault → IsFaultOfLines end lines fault
fault_of_models end lines fault sound (inl first) = inr (inl (record { sound = sound; first = first }))
fault_of_models end lines fault sound (inr (inl recursive)) = inr (inr (inl (record {
  named = record { sound = sound; named = recursive.named };
  line = recursive.first.line;
  first = record {
    before = recursive.first.before;
    after = recursive.first.after;
    whole = recursive.first.whole;
    deep = recursive.first.deep;
    recursive = recursive.first.at.recursive;
  };
  is = recursive.first.at.is;
})))
fault_of_models end lines fault sound (inr (inr (inl big))) = inr (inr (inr (inl (record {
  deep = record { named = record { sound = sound; named = big.checked.named }; deep = big.checked.deep };
  depth = big.depth;
  within = big.within;
  many = big.many;
  is = big.is;
}))))
fault_of_models end lines fault sound (inr (inr (inr ports))) = of_ports ports.many
  where
    small : AreSmall lines ports.small.depth
    small = record {
      deep = record {
        named = record { sound = sound; named = ports.small.checked.named };
        deep = ports.small.checked.deep;
      };
      within = ports.small.within;
      small = ports.small.small;
    }

    of_ports : HasManyPorts (model_at (models_of lines) 0).lines fault → IsFaultOfLines end lines fault
    of_ports (inl inputs) =
        inr (inr (inr (inr (inl (record { depth = ports.small.depth; small = small; many = inputs.many; is = inputs.is })))))
    of_ports (inr outputs) = inr (inr (inr (inr (inr (inl (record {
      depth = ports.small.depth;
      small = small;
      few_inputs = outputs.few_inputs;
      many = outputs.many;
      is = outputs.is;
    }))))))

pub model_stop : (bytes : List ℕ) (models : List BlifModel) (end : ℕ) (fault : HierFault) → AreSound (blif_lines bytes) → models ≡ models_of (blif_lines bytes) → end ≡ length bytes → IsModelFault end models fault → IsHierFault bytes fault
model_stop bytes models end fault sound same at is =
    fault_of_models (length bytes) (blif_lines bytes) fault sound (subst (λ ms. IsModelFault (length bytes) ms fault) same (subst (λ n. IsModelFault n models fault) at is))

-- the flat circuit
abbrev pub circuit_of : ℕ → List Def → List Lit → Circuit
circuit_of inputs defs outputs = record { inputs = inputs; defs = defs; outputs = outputs }

pub net_is : (models : List BlifModel) (depth inputs : ℕ) (top : Frame) (defs : List Def) (outputs : List Lit) → IsTopFrame models depth top → inputs ≡ length (inputs_of (model_at models 0)) → defs ≡ defs_of (frame_left models top) → outputs ≡ map (λ word. plain_literal (own_signal models top word.bytes)) (outputs_of (model_at models 0)) → circuit_of inputs defs outputs ≡ flat_circuit (model_at models 0) (flat_covers models (suc depth) (model_at models 0)) (signal_of_top models (suc depth) (model_at models 0))
net_is models depth inputs top defs outputs is i d o =
    let signal = signal_of_top models (suc depth) (model_at models 0) in
    let covers = flat_covers models (suc depth) (model_at models 0) in
    let words = outputs_of (model_at models 0) in
    let all = d ∙ (ap defs_of is.left ∙ map-map (λ (e : FlatEntry). e.0) (flat_entry signal) covers) in
    let named = o ∙ map_same (λ (word : Piece). plain_literal (own_signal models top word.bytes)) (λ (word : Piece). plain_literal (signal [] word.bytes)) words (λ k z below. ap plain_literal (is.signals [] (get_or words k z).bytes)) in
    ap (λ n. circuit_of n defs outputs) i
    ∙ (ap (λ ds. circuit_of (length (inputs_of (model_at models 0))) ds outputs) all ∙ ap (circuit_of (length (inputs_of (model_at models 0))) (map (flat_def signal) covers)) named)

pub places_are : (models : List BlifModel) (depth : ℕ) (top : Frame) (places : List ℕ) → IsTopFrame models depth top → places ≡ places_of (frame_left models top) → places ≡ map (λ cover. cover.1.at) (flat_covers models (suc depth) (model_at models 0))
places_are models depth top places is p =
    p
    ∙ (ap places_of is.left ∙ map-map (λ (e : FlatEntry). e.1) (flat_entry (signal_of_top models (suc depth) (model_at models 0))) (flat_covers models (suc depth) (model_at models 0)))

numbered : (models : List BlifModel) (depth : ℕ) → name_faults models ≡ [] → 0 < length models → is_within models depth (model_at models 0) ≡ true → IsNumbered models (model_at models 0) depth (signal_of_top models depth (model_at models 0))
numbered models depth named some within =
    let held = Contains-get_or models 0 (empty_model 0 no_name) some in
    record {
      well = well_named models named;
      held = held;
      deep = within;
      numbering = numbering depth models (model_at models 0) (record { well = well_named models named; apart = named_apart models named }) held within;
    }

pub net_closed : (models : List BlifModel) (depth : ℕ) → name_faults models ≡ [] → All HasWideCovers models → IsTop models depth → IsClosed (flat_circuit (model_at models 0) (flat_covers models (suc depth) (model_at models 0)) (signal_of_top models (suc depth) (model_at models 0)))
net_closed models depth named wide is =
    closed_flat models (model_at models 0) (suc depth) (signal_of_top models (suc depth) (model_at models 0)) (numbered models (suc depth) named is.there is.within) wide

-- each output is a name of the top, and they are few
pub outputs_known : (models : List BlifModel) (depth : ℕ) (top : Frame) → name_faults models ≡ [] → IsTop models depth → IsTopFrame models depth top → All (λ word. IsNameOf models top word.bytes) (outputs_of (model_at models 0))
outputs_known models depth top named is top_frame =
    let model = model_at models 0 in
    let known = (well_named models named).known model (Contains-get_or models 0 (empty_model 0 no_name) is.there) in
    subst (λ place. All (λ word. IsNameIn models (model_at models place) word.bytes) (outputs_of model)) (sym top_frame.model) (outputs_among_read (λ (word : Piece). IsNameIn models model word.bytes) models model.lines known)

pub outputs_few : (models : List BlifModel) (depth : ℕ) (top : Frame) (outputs : List Lit) → IsTop models depth → outputs ≡ map (λ word. plain_literal (own_signal models top word.bytes)) (outputs_of (model_at models 0)) → length outputs < 2 ^ 32
outputs_few models depth top outputs is o =
    omega (arith, ap length o, length-map (outputs_of (model_at models 0)) (λ (word : Piece). plain_literal (own_signal models top word.bytes)), is.outputs)

pub net_small : (models : List BlifModel) (depth inputs : ℕ) (top : Frame) (defs : List Def) → IsTop models depth → IsTopFrame models depth top → inputs ≡ length (inputs_of (model_at models 0)) → defs ≡ defs_of (frame_left models top) → 1 + inputs + length defs < 2 ^ 30
net_small models depth inputs top defs is top_frame i d =
    let covers = flat_covers models (suc depth) (model_at models 0) in
    let long = ap length (d ∙ ap defs_of top_frame.left) ∙ (length-map (map (flat_entry (signal_of_top models (suc depth) (model_at models 0))) covers) (λ (e : FlatEntry). e.0) ∙ (length-map covers (flat_entry (signal_of_top models (suc depth) (model_at models 0))) ∙ counted (suc depth) models (model_at models 0))) in
    omega (arith, long, i, is.inputs, is.few)

-- what a file is flattened to
flattened : (bytes : List ℕ) (flat : Flat) → (file : IsFlatFile bytes flat) → AreFlattened (blif_lines bytes) (suc file.depth) flat.net
flattened bytes flat file =
    let models = models_of (blif_lines bytes) in
    let n = numbered models (suc file.depth) file.few.small.deep.named.named (some_model (blif_lines bytes)) file.few.small.within in
    record {
      signal = signal_of_top models (suc file.depth) (model_at models 0);
      numbered = n.numbering;
      is = file.flat_is.net;
    }

closed_file : (bytes : List ℕ) (flat : Flat) → IsFlatFile bytes flat → IsClosed flat.net
closed_file bytes flat file =
    let models = models_of (blif_lines bytes) in
    let n = numbered models (suc file.depth) file.few.small.deep.named.named (some_model (blif_lines bytes)) file.few.small.within in
    subst IsClosed (sym file.flat_is.net) (closed_flat models (model_at models 0) (suc file.depth) (signal_of_top models (suc file.depth) (model_at models 0)) n (models_wide (blif_lines bytes) file.few.small.deep.named.sound))

pub graph_of : (bytes : List ℕ) (flat : Flat) (graph : Net) → IsFlatFile bytes flat → IsAcyclic flat.net → IsOrderOf flat.net graph → Computes graph flat.net → length graph.gates ≤ most_gates → IsGraphOf bytes graph
graph_of bytes flat graph file acyclic ordered computes small =
    let models = models_of (blif_lines bytes) in
    let signal = signal_of_top models (suc file.depth) (model_at models 0) in
    let n = numbered models (suc file.depth) file.few.small.deep.named.named (some_model (blif_lines bytes)) file.few.small.within in
    record {
      depth = suc file.depth;
      circuit = flat.net;
      is = record {
        few = file.few;
        flattened = flattened bytes flat file;
        acyclic = acyclic;
        few_gates = omega (arith, gates_in_order flat.net graph (closed_file bytes flat file) ordered, small);
      };
      numbered = ordered;
      computes = computes;
      function = flat_function models (model_at models 0) (suc file.depth) signal graph n (subst IsAcyclic file.flat_is.net acyclic) (subst (Computes graph) file.flat_is.net computes);
    }

-- models that are checked, and what they are flattened to, are those of the file
pub flat_file : (bytes : List ℕ) (models : List BlifModel) (checked : CheckedModels) (flat : Flat) → AreSound (blif_lines bytes) → models ≡ models_of (blif_lines bytes) → IsCheckOf models checked → IsFlatOf checked.scope.models.now (length checked.order.items) flat → IsFlatFile bytes flat
flat_file bytes models checked flat sound same are is =
    let all = models_of (blif_lines bytes) in
    let of_all = subst (λ ms. IsCheckOf ms checked) same are in
    let within = top_within all checked.order.items (some_model (blif_lines bytes)) of_all.order in
    record {
      depth = length checked.order.items;
      few = few_at (blif_lines bytes) (suc (length checked.order.items)) sound of_all.are within;
      flat_is = subst (λ ms. IsFlatOf ms (length checked.order.items) flat) (are.same ∙ same) is;
    }

-- the definition on a cycle has a place
defs_long : (bytes : List ℕ) (flat : Flat) → (file : IsFlatFile bytes flat) → length flat.net.defs ≡ length (covers_of_top (blif_lines bytes) (suc file.depth))
defs_long bytes flat file =
    let models = models_of (blif_lines bytes) in
    ap (λ (c : Circuit). length c.defs) file.flat_is.net
    ∙ length-map (flat_covers models (suc file.depth) (model_at models 0)) (flat_def (signal_of_top models (suc file.depth) (model_at models 0)))

pub place_there : (bytes : List ℕ) (flat : Flat) (d : ℕ) → IsFlatFile bytes flat → IsFirstLooped flat.net d → d < length flat.places
place_there bytes flat d file looped =
    let long = ap length file.flat_is.places ∙ length-map (covers_of_top (blif_lines bytes) (suc file.depth)) (λ (c : FlatCover). c.1.at) in
    omega (arith, long, defs_long bytes flat file, looped.there)

abbrev at_kind : HierKind → ℕ → HierFault
at_kind kind at = record { kind = kind; at = at }

pub cycle_of : (bytes : List ℕ) (flat : Flat) (d at : ℕ) → IsFlatFile bytes flat → IsFirstLooped flat.net d → at ≡ get_or flat.places d at → IsHierFault bytes (record { kind = wrong.Cycle; at = at })
cycle_of bytes flat d at file looped is =
    let covers = covers_of_top (blif_lines bytes) (suc file.depth) in
    let there : d < length covers = omega (arith, defs_long bytes flat file, looped.there) in
    inr (inr (inr (inr (inr (inr (inl (record {
      depth = suc file.depth;
      few = file.few;
      circuit = flat.net;
      flattened = flattened bytes flat file;
      definition = d;
      why = looped;
      is = λ z. ap (at_kind wrong.Cycle) (is ∙ (ap (λ ps. get_or ps d at) file.flat_is.places ∙ get_or-map (λ (c : FlatCover). c.1.at) covers d z at there));
    })))))))

pub gates_of : (bytes : List ℕ) (flat : Flat) → IsFlatFile bytes flat → IsAcyclic flat.net → most_gates < gates_in flat.net → IsHierFault bytes (record { kind = wrong.TooManyGates; at = length bytes })
gates_of bytes flat file acyclic many = inr (inr (inr (inr (inr (inr (inr (record {
  depth = suc file.depth;
  few = file.few;
  circuit = flat.net;
  flattened = flattened bytes flat file;
  acyclic = acyclic;
  many = many;
  is = refl;
})))))))

-- each port has a name
pub inputs_named : (bytes : List ℕ) (graph : Net) (names : List (List ℕ)) → IsGraphOf bytes graph → names ≡ map (λ word. word.bytes) (inputs_of (top_of (models_of (blif_lines bytes)))) → length names ≡ graph.inputs
inputs_named bytes graph names is n =
    let words = inputs_of (top_of (models_of (blif_lines bytes))) in
    ap length n ∙ (length-map words (λ (word : Piece). word.bytes) ∙ sym is.function.inputs)

pub outputs_named : (bytes : List ℕ) (graph : Net) (names : List (List ℕ)) → IsGraphOf bytes graph → names ≡ map (λ word. word.bytes) (outputs_of (top_of (models_of (blif_lines bytes)))) → length names ≡ length graph.outputs
outputs_named bytes graph names is n =
    let words = outputs_of (top_of (models_of (blif_lines bytes))) in
    let circuit = ap (λ (c : Circuit). length c.outputs) is.is.flattened.is ∙ length-map words (λ (word : Piece). plain_literal (is.is.flattened.signal [] word.bytes)) in
    ap length n ∙ (length-map words (λ (word : Piece). word.bytes) ∙ (sym circuit ∙ sym is.computes.outputs))

-- how many instances the top makes, exactly
exact_count : (n c i : ℕ) → n + c ≤ most_parts → i ≡ capped n → i ≡ n
exact_count n c i few is = omega (arith, few, is)

pub read_as : (bytes : List ℕ) (named : Named) (models instances : ℕ) (size : Size) → IsNamedOf bytes named → models ≡ length (models_of (blif_lines bytes)) → IsSize (models_of (blif_lines bytes)) (top_of (models_of (blif_lines bytes))) size → instances ≡ size.instances → ReadAs bytes named.graph named.input_names named.output_names models instances
read_as bytes named models instances size is m sized i =
    let all = models_of (blif_lines bytes) in
    let top = top_of all in
    let graph = is.graph_is in
    let small = graph.is.few.small in
    record {
      depth = graph.depth;
      circuit = graph.circuit;
      is = graph.is;
      numbered = graph.numbered;
      function = graph.function;
      input_names_are = is.input_names_are;
      output_names_are = is.output_names_are;
      models_are = m;
      instances_are = i ∙ exact_count (instances_within all graph.depth top) (covers_within all graph.depth top) size.instances small.small (sized.instances graph.depth small.within);
    }
