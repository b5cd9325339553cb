-- The two texts of a pair are files of netlists that its graphs compute.
use Rattle.std.proofs.Common.{◌≡◌, ℕ, zero, suc, ◌+◌, ◌^◌, ◌<◌, inl, inr, Bool, true, false, List, [], ◌∷◌, length, map, get_or, take, All, Option, Some, refl, sym, ◌∙◌, ap, subst, arith, length-append}
use Rattle.std.specs.Fmt.{decimal}
use Rattle.std.specs.List.{range_with_len}
use Rattle.std.proofs.lemmas.Bool.{false≢true}
use Rattle.std.proofs.lemmas.Fmt.{length-decimal-le}
use Rattle.std.proofs.lemmas.List.{get_or_push}
use Rattle.std.proofs.lemmas.List.Elements.{All-nil, All-cons}
use Rattle.std.proofs.lemmas.List.FromFn.{length-map-range_with_len}
use Rattle.circuits.specs.Functions.{as_circuit}
use Rattle.circuits.specs.Netlists.{Net, IsOrdered}
use Rattle.text_core.specs.Bytes.{is_blank, is_line_feed}
use Rattle.text_core.proofs.NumberLemmas.{IsWord-decimal}
use Rattle.net_file.specs.declared.named.Named.{Named}
use Rattle.aiger_reader.specs.Headers.{keyword}
use Rattle.gen_pair.specs.declared.pair.GenPair.{GenPair}
use Rattle.gen_pair.specs.Names.{HasNames, port_name}
use Rattle.gen_pair.specs.Pairs.{HasSizes}
use Rattle.net_print.specs.BlifLines.{blif_text}
use Rattle.net_print.specs.Files.{aig_text}
use Rattle.print_laws.specs.Ordered.{with_greater_first}
use Rattle.print_laws.specs.Printable.{IsPrintable, IsShortName, IsSymbolName, IsWithinLimits}
use Rattle.print_laws.specs.PrintedCircuits.{printed_circuit, printed_inputs, printed_outputs}
use Rattle.print_laws.proofs.Aig.{aig_is}
use Rattle.print_laws.proofs.BlifReads.{printed_blif}
use Rattle.print_laws.proofs.NumberLines.{IsLine-decimal}
use Rattle.print_laws.proofs.OperandOrder.{computes_too}
use Rattle.print_laws.proofs.PrintedMeaning.{printed_computes}
use Rattle.print_laws.proofs.SizeLemmas.{aig_short, blif_short}
use Rattle.check_steps.specs.Held.{Netlist}
use Rattle.run_steps.specs.Make.{HasComputed, IsDrawn}

-- the name of a port is one that a symbol can give: a letter and digits

abbrev IsNoBlank : ℕ → Type 0
IsNoBlank byte = is_blank byte ≡ false

name_good : (letter n : ℕ) → is_line_feed letter ≡ false → is_blank letter ≡ false → n < 2 ^ 64 → IsSymbolName (port_name letter n)
name_good letter n line no_blank few = record {
  filled = λ e. cc;
  on_line = All-cons (λ byte. is_line_feed byte ≡ false) letter (decimal n) line (IsLine-decimal n few);
  no_return = λ front e.
      let all : All IsNoBlank (letter ∷ decimal n) = All-cons IsNoBlank letter (decimal n) no_blank (IsWord-decimal n few).1 in
      let last = subst (All IsNoBlank) e all (length front) 0 (omega (arith, length-append front (13 ∷ []))) in
      false≢true (sym (subst IsNoBlank (get_or_push front 13 0 (length front) refl) last));
}

names_good : (letter a n : ℕ) → is_line_feed letter ≡ false → is_blank letter ≡ false → a + n < 2 ^ 32 → All IsSymbolName (map (port_name letter) (range_with_len a n))
names_good letter a zero line no_blank few = All-nil IsSymbolName
names_good letter a (suc n) line no_blank few =
    All-cons IsSymbolName (port_name letter a) (map (port_name letter) (range_with_len (a + 1) n)) (name_good letter a line no_blank (omega (arith, few))) (names_good letter (a + 1) n line no_blank (omega (arith, few)))

names_short : (letter a n : ℕ) → a + n < 2 ^ 32 → All IsShortName (map (port_name letter) (range_with_len a n))
names_short letter a zero few = All-nil IsShortName
names_short letter a (suc n) few =
    All-cons IsShortName (port_name letter a) (map (port_name letter) (range_with_len (a + 1) n)) (omega (arith, length-decimal-le 10 a (omega arith) (omega (arith, few)) (omega (arith, few)))) (names_short letter (a + 1) n (omega (arith, few)))

-- a netlist of a pair is within the limits of the readers
within_limits : (net : Net) → HasSizes net → IsOrdered net → IsWithinLimits net
within_limits net sizes ordered = record {
  ordered = ordered;
  inputs = omega (arith, sizes.inputs);
  outputs = omega (arith, sizes.outputs);
  gates = omega (arith, sizes.gates);
}

-- and one with such names can be printed in the binary form of AIGER
printable : (input output : ℕ) (named : Named) → is_line_feed input ≡ false → is_blank input ≡ false → is_line_feed output ≡ false → is_blank output ≡ false → HasSizes named.graph → IsOrdered named.graph → HasNames input output named → IsPrintable named
printable input output named input_line input_blank output_line output_blank sizes ordered names = record {
  within = within_limits named.graph sizes ordered;
  inputs_named = ap length names.inputs ∙ length-map-range_with_len (port_name input) 0 named.graph.inputs;
  outputs_named = ap length names.outputs ∙ length-map-range_with_len (port_name output) 0 (length named.graph.outputs);
  input_names = subst (All IsSymbolName) (sym names.inputs) (names_good input 0 named.graph.inputs input_line input_blank (omega (arith, sizes.inputs)));
  output_names = subst (All IsSymbolName) (sym names.outputs) (names_good output 0 (length named.graph.outputs) output_line output_blank (omega (arith, sizes.outputs)));
}

-- the first text is read as a netlist that the first graph computes
pub first_read : (number : ℕ) (pair : GenPair) → IsDrawn number pair → (content : Option (List ℕ)) → content ≡ Some (aig_text pair.first) → (file : Netlist) × HasComputed content pair.first.graph file
first_read number pair is content there =
    let named = pair.first in
    let sizes = is.drawn.first_size in
    let names = is.first_names in
    let good = printable 97 102 named refl refl refl refl sizes is.first_ordered names in
    let inputs = subst (All IsShortName) (sym names.inputs) (names_short 97 0 named.graph.inputs (omega (arith, sizes.inputs))) in
    let outputs = subst (All IsShortName) (sym names.outputs) (names_short 102 0 (length named.graph.outputs) (omega (arith, sizes.outputs))) in
    let text = aig_is named good in (
      record { circuit = as_circuit (with_greater_first named.graph); input_names = named.input_names; output_names = named.output_names },
      record {
        holds = record {
          bytes = aig_text named;
          there = there;
          short = aig_short named good inputs outputs;
          is = inl ((text.h.binary, text.netlist.begins.header.begins), text);
        };
        computes = computes_too named.graph is.first_ordered;
      },
    )

-- a printed BLIF file begins with a dot
no_keyword : (net : Net) (binary : Bool) → take 4 (blif_text net) ≡ keyword binary → ⊥
no_keyword net true e = let is : 46 ≡ 97 = ap (λ (text : List ℕ). get_or text 0 0) e in omega (arith, is)
no_keyword net false e = let is : 46 ≡ 97 = ap (λ (text : List ℕ). get_or text 0 0) e in omega (arith, is)

-- the second text is read as a netlist that the second graph computes
pub second_read : (number : ℕ) (pair : GenPair) → IsDrawn number pair → (content : Option (List ℕ)) → content ≡ Some (blif_text pair.second.graph) → (file : Netlist) × HasComputed content pair.second.graph file
second_read number pair is content there =
    let net = pair.second.graph in
    let within = within_limits net is.drawn.second_size is.second_ordered in (
      record { circuit = printed_circuit net; input_names = printed_inputs net; output_names = printed_outputs net },
      record {
        holds = record {
          bytes = blif_text net;
          there = there;
          short = blif_short net within (omega (arith, is.drawn.second_size.gates));
          is = inr (λ (binary, e). no_keyword net binary e, printed_blif net within);
        };
        computes = printed_computes net is.second_ordered;
      },
    )
