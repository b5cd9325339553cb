-- For `whole`: what the passes over a file find is what the definitions of its netlist and its faults say.
use Rattle.std.proofs.Common.{◌≡◌, ◌||◌, ◌&&◌, ℕ, suc, ◌+◌, ◌^◌, ◌<◌, cond, ◌≤◌, Bool, true, false, not, List, [], ◌∷◌, ◌++◌, length, map, take, get_or, All, refl, ap, sym, subst, ◌∙◌, arith}
use Rattle.std.specs.List.{list_any}
use Rattle.std.specs.Str.{bytes_eq}
use Rattle.std.proofs.lemmas.List.Folds.{list_any-append}
use Rattle.std.proofs.lemmas.Simd.{map-map}
use Rattle.text_core.specs.Piece.{Piece}
use Rattle.circuits.specs.declared.port.PortKind.{PortKind}
use Rattle.circuits.specs.declared.port.PortKind.TheVariants.{Input, Output}
use Rattle.circuits.specs.declared.netlist.Lit.{Lit}
use Rattle.circuits.specs.declared.definition.Def.{Def}
use Rattle.circuits.specs.Circuits.{Circuit, IsClosed}
use Rattle.circuits.specs.Expansion.{gates_in}
use Rattle.circuits.specs.Levels.{IsAcyclic, IsFirstLooped, IsOrderOf}
use Rattle.circuits.specs.Netlists.{Net}
use Rattle.circuits.proofs.GateCounts.{gates_in_order}
use Rattle.circuits.proofs.LevelOrders.{IsOrderOf-computes}
use Rattle.net_file.specs.declared.fault.NetKind.{NetKind}
use Rattle.net_file.specs.declared.fault.NetKind.TheVariants as fault
use Rattle.blif_reader.specs.declared.directive.Directive.{Directive}
use Rattle.blif_reader.specs.declared.directive.Directive.TheVariants.{Names}
use Rattle.blif_reader.specs.declared.covers.Covers.{Covers}
use Rattle.blif_reader.specs.Directives.{directive_of, is_names}
use Rattle.blif_reader.specs.declared.survey.PortWord.{PortWord}
use Rattle.blif_reader.specs.JoinedLines.{word_of}
use Rattle.blif_reader.specs.Firsts.{NoneIs}
use Rattle.blif_reader.specs.Names.{same_name, port_words, words_of_kind, input_words, defined_on, defined_words, read_words, is_undefined}
use Rattle.blif_reader.specs.Numbers.{bytes_of, port_names, AreNamed, AreDefined, IsRepeatedPort, IsRepeatedName}
use Rattle.blif_reader.specs.Faults.{AreFew, AreDeclared, AreDistinct, AreDefinedOnce, AreKnown, IsAtFirst, IsPortFault, IsRedefinedFault, IsUndefinedFault}
use Rattle.blif_reader.specs.Covers.{signal_names, literal_named, covers_of, blif_circuit, names_lines}
use Rattle.blif_reader.specs.Blif.{blif_lines, IsBlif, IsCycleFault, IsGatesFault, ReadAs}
use Rattle.blif_reader.specs.Building.{IsKnownIn, IsUnknownAt, IsUnknownFault, outputs_in, places_by, places_in, IsBuilt}
use Rattle.blif_reader.proofs.FirstLemmas.{IsFirst-seam}
use Rattle.blif_reader.proofs.NumberLemmas.{list_any-map}
use Rattle.blif_reader.proofs.ClosedLemmas.{closed_circuit, length-names, length-covers_of, output_words-outputs_in}
use Rattle.std.proofs.lemmas.List.{get_or-map, length-map}
use Rattle.std.proofs.Math.Seq.{take-length, get_or-append_seam}
use Rattle.net_core.specs.Limits.{most_gates}
use borrow.Author.Tests.{not-false}

pub port_names-bytes : (kind : PortKind) (ports : List PortWord) → port_names kind ports ≡ bytes_of (words_of_kind kind ports)
port_names-bytes kind ports = sym (map-map (λ (w : Piece). w.bytes) (λ (p : PortWord). p.word) _)

-- the ports are distinct, and these are the names of the inputs
pub inputs_named : (lines : List (List Piece)) (ports : List PortWord) (inputs outputs : List (List ℕ)) → AreDeclared lines → ports ≡ port_words lines → AreNamed ports (length ports) inputs outputs → AreDistinct lines × (inputs ≡ bytes_of (input_words lines))
inputs_named lines ports inputs outputs declared same named =
    let all = subst (λ ps. AreNamed ps (length ps) inputs outputs) same named in
    (record { declared = declared; once = all.once }, all.inputs_are ∙ (ap (port_names Input) (take-length (port_words lines)) ∙ port_names-bytes Input (port_words lines)))

pub repeated_port : (lines : List (List Piece)) (kind : NetKind) (at : ℕ) → AreDeclared lines → IsRepeatedPort (port_words lines) kind at → IsPortFault lines kind at
repeated_port lines kind at declared found = record {
  declared = declared;
  is = found.is;
  place = found.place;
  first = found.first;
  offset = found.offset;
}

-- the names that are defined were added to those of the inputs: names are defined once, and these are the names of the signals
pub names_numbered : (lines : List (List Piece)) (ports : List PortWord) (defined : List Piece) (inputs outputs names : List (List ℕ))
    → AreDeclared lines
    → ports ≡ port_words lines
    → defined ≡ defined_words lines
    → AreNamed ports (length ports) inputs outputs
    → ((words : List Piece) → inputs ≡ bytes_of words → AreDefined words defined (length defined) names)
    → AreDefinedOnce lines × (names ≡ signal_names lines)
names_numbered lines ports defined inputs outputs names declared p d named added =
    let distinct = inputs_named lines ports inputs outputs declared p named in
    let all = subst (λ ds. AreDefined (input_words lines) ds (length ds) names) d (added (input_words lines) distinct.1) in
    (record { distinct = distinct.0; once = all.once }, all.names_are ∙ ap (λ ds. bytes_of (input_words lines ++ ds)) (take-length (defined_words lines)))

-- one of them is an input's, or was defined before
pub name_redefined : (lines : List (List Piece)) (defined : List Piece) (kind : NetKind) (at : ℕ) → AreDistinct lines → defined ≡ defined_words lines → IsRepeatedName (input_words lines) defined kind at → IsRedefinedFault lines kind at
name_redefined lines defined kind at distinct d again =
    let found = subst (λ ds. IsRepeatedName (input_words lines) ds kind at) d again in
    record { distinct = distinct; is = found.is; why = found.why }

-- a name isn't known exactly where it is neither an input's nor defined
not_either : (a b : Bool) → not (a || b) ≡ (not a && not b)
not_either true b = refl
not_either false b = refl

undefined_by : (lines : List (List Piece)) (earlier : List Piece) (word : Piece) → is_undefined (input_words lines) (defined_words lines) earlier word ≡ not (list_any (bytes_eq word.bytes) (signal_names lines))
undefined_by lines earlier word =
    sym (ap not (list_any-map (bytes_eq word.bytes) (λ (w : Piece). w.bytes) (input_words lines ++ defined_words lines) ∙ list_any-append (same_name word) (input_words lines) (defined_words lines)) ∙ not_either (list_any (same_name word) (input_words lines)) (list_any (same_name word) (defined_words lines)))

none_undefined : (lines : List (List Piece)) (words : List Piece) → All (IsKnownIn (signal_names lines)) words → NoneIs (is_undefined (input_words lines) (defined_words lines)) words
none_undefined lines words known k d below =
    undefined_by lines (take k words) (get_or words k d) ∙ ap not (known k d below)

pub all_known : (lines : List (List Piece)) → AreDefinedOnce lines → All (IsKnownIn (signal_names lines)) (read_words lines) → AreKnown lines
all_known lines single known = record { single = single; known = none_undefined lines (read_words lines) known }

first_unknown : (lines : List (List Piece)) (words : List Piece) (at : ℕ) → IsUnknownAt (signal_names lines) words at → IsAtFirst (is_undefined (input_words lines) (defined_words lines)) words at
first_unknown lines words at u =
    let found = is_undefined (input_words lines) (defined_words lines) in
    subst (λ ws. IsAtFirst found ws at) (sym u.whole) (record {
      place = length u.before;
      first = IsFirst-seam found u.before u.word u.after (none_undefined lines u.before u.known) (undefined_by lines u.before u.word ∙ ap not u.unknown);
      offset = u.offset ∙ ap (λ (w : Piece). w.at) (sym (get_or-append_seam u.before u.word u.after (record { bytes = []; at = 0 })));
    })

pub undefined_name : (lines : List (List Piece)) (kind : NetKind) (at : ℕ) → AreDefinedOnce lines → IsUnknownFault (signal_names lines) (read_words lines) kind at → IsUndefinedFault lines kind at
undefined_name lines kind at single found = record {
  single = single;
  is = found.is;
  why = first_unknown lines (read_words lines) at found.why;
}

signals_known : (lines : List (List Piece)) → AreKnown lines → All (IsKnownIn (signal_names lines)) (read_words lines)
signals_known lines known k d below =
    let word = get_or (read_words lines) k d in
    not-false _ (sym (undefined_by lines (take k (read_words lines)) word) ∙ known.known k d below)

-- the netlist that a file is
pub closed_lines : (lines : List (List Piece)) → AreFew lines → IsClosed (blif_circuit lines)
closed_lines lines few =
    closed_circuit lines few.known.single.distinct.declared.sound (signals_known lines few.known)

pub closed_blif : (bytes : List ℕ) (circuit : Circuit) (i o : List (List ℕ)) → IsBlif bytes circuit i o → IsClosed circuit
closed_blif bytes circuit i o is = subst IsClosed (sym is.same) (closed_lines (blif_lines bytes) is.names)

-- the netlist that the second pass makes
abbrev pub circuit_made : ℕ → List Def → List Lit → Circuit
circuit_made inputs defs outputs = record { inputs = inputs; defs = defs; outputs = outputs }

pub same_circuit : (lines : List (List Piece)) (inputs : ℕ) (covers : Covers) → inputs ≡ length (input_words lines) → IsBuilt (signal_names lines) lines covers → circuit_made inputs covers.defs covers.outputs ≡ blif_circuit lines
same_circuit lines inputs covers i built =
    let outputs = built.outputs ∙ ap (map (literal_named (signal_names lines))) (sym (output_words-outputs_in lines)) in
    ap (λ n. circuit_made n covers.defs covers.outputs) i
    ∙ (ap (λ ds. circuit_made (length (input_words lines)) ds covers.outputs) built.defs ∙ ap (circuit_made (length (input_words lines)) (covers_of (signal_names lines) lines)) outputs)

pub closed_made : (lines : List (List Piece)) (inputs : ℕ) (covers : Covers) → AreFew lines → inputs ≡ length (input_words lines) → IsBuilt (signal_names lines) lines covers → IsClosed (circuit_made inputs covers.defs covers.outputs)
closed_made lines inputs covers few i built =
    subst IsClosed (sym (same_circuit lines inputs covers i built)) (closed_lines lines few)

pub signals_made : (lines : List (List Piece)) (inputs : ℕ) (covers : Covers) → inputs ≡ length (input_words lines) → IsBuilt (signal_names lines) lines covers → 1 + length (signal_names lines) < 2 ^ 30 → 1 + inputs + length covers.defs < 2 ^ 30
signals_made lines inputs covers i built small =
    omega (arith, length-names lines, length-covers_of (signal_names lines) lines, ap length built.defs)

pub outputs_made : (lines : List (List Piece)) (covers : Covers) → AreFew lines → IsBuilt (signal_names lines) lines covers → length covers.outputs < 2 ^ 32
outputs_made lines covers few built =
    let long = ap length built.outputs ∙ (length-map (outputs_in lines) (literal_named (signal_names lines)) ∙ ap length (sym (output_words-outputs_in lines))) in
    omega (arith, long, few.outputs)

pub gates_made : (lines : List (List Piece)) (net : Net)
    → AreFew lines
    → IsOrderOf (blif_circuit lines) net
    → length net.gates ≤ most_gates
    → gates_in (blif_circuit lines) ≤ most_gates
gates_made lines net few ordered small =
    omega (arith, gates_in_order (blif_circuit lines) net (closed_lines lines few) ordered)

-- the offset of a `.names` line
abbrev place_of : List Piece → ℕ
place_of line = (word_of line 0).at

names_by_test : (line : List Piece) (lines : List (List Piece)) (directive : Directive) → directive_of line ≡ directive → places_in lines ≡ map place_of (names_lines lines) → places_by directive line ++ places_in lines ≡ map place_of (names_lines (line ∷ lines))
names_by_test line lines Names k h =
    ap (λ ps. place_of line ∷ ps) h ∙ sym (ap (λ t. map place_of (cond t (line ∷ names_lines lines) (names_lines lines))) (ap is_names k))
names_by_test line lines other k h =
    h ∙ sym (ap (λ t. map place_of (cond t (line ∷ names_lines lines) (names_lines lines))) (ap is_names k))

places_in-names : (lines : List (List Piece)) → places_in lines ≡ map place_of (names_lines lines)
places_in-names [] = refl
places_in-names (line ∷ lines) = names_by_test line lines (directive_of line) refl (places_in-names lines)

count_places : (line : List Piece) (lines : List (List Piece)) (directive : Directive) → length (places_in lines) ≡ length (defined_words lines) → length (places_by directive line ++ places_in lines) ≡ length (defined_on directive line ++ defined_words lines)
count_places line lines Names h = ap suc h
count_places line lines other h = h

length-places_in : (lines : List (List Piece)) → length (places_in lines) ≡ length (defined_words lines)
length-places_in [] = refl
length-places_in (line ∷ lines) = count_places line lines (directive_of line) (length-places_in lines)

-- each definition has a place
pub place_there : (lines : List (List Piece)) (covers : Covers) (d : ℕ) → IsBuilt (signal_names lines) lines covers → IsFirstLooped (blif_circuit lines) d → d < length covers.places
place_there lines covers d built looped =
    omega (arith, looped.there, length-covers_of (signal_names lines) lines, length-places_in lines, ap length built.places)

pub cycle_found : (lines : List (List Piece)) (covers : Covers) (d at : ℕ) → AreFew lines → IsBuilt (signal_names lines) lines covers → IsFirstLooped (blif_circuit lines) d → at ≡ get_or covers.places d at → IsCycleFault lines fault.CoverCycle at
cycle_found lines covers d at few built looped i =
    let there : d < length (names_lines lines) = omega (arith, place_there lines covers d built looped, ap length built.places, ap length (places_in-names lines), length-map (names_lines lines) place_of) in
    record {
      names = few;
      is = refl;
      definition = d;
      why = looped;
      offset = i ∙ (ap (λ (ps : List ℕ). get_or ps d at) (built.places ∙ places_in-names lines) ∙ get_or-map place_of (names_lines lines) d [] at there);
    }

pub gates_found : (end : ℕ) (lines : List (List Piece)) → AreFew lines → IsAcyclic (blif_circuit lines) → most_gates < gates_in (blif_circuit lines) → IsGatesFault end lines fault.TooManyGates end
gates_found end lines few acyclic many = record { names = few; acyclic = acyclic; is = refl; many = many; offset = refl }

-- a netlist in order that was made of a file, with the names of its ports, is what the file is read as
pub read_as : (bytes : List ℕ) (net : Net) (input_names output_names : List (List ℕ))
    → AreFew (blif_lines bytes)
    → IsAcyclic (blif_circuit (blif_lines bytes))
    → gates_in (blif_circuit (blif_lines bytes)) ≤ most_gates
    → IsOrderOf (blif_circuit (blif_lines bytes)) net
    → input_names ≡ port_names Input (port_words (blif_lines bytes))
    → output_names ≡ port_names Output (port_words (blif_lines bytes))
    → ReadAs bytes net input_names output_names
read_as bytes net input_names output_names few acyclic few_gates ordered inputs outputs =
    let lines = blif_lines bytes in
    record {
      circuit = blif_circuit lines;
      is = record {
        names = few;
        same = refl;
        acyclic = acyclic;
        few_gates = few_gates;
        input_names_are = inputs ∙ port_names-bytes Input (port_words lines);
        output_names_are = outputs ∙ port_names-bytes Output (port_words lines);
      };
      computes = IsOrderOf-computes (blif_circuit lines) net acyclic (closed_lines lines few) ordered;
      numbered = ordered;
    }
