-- The lines by the numbers of their signals: a netlist that is closed and small.
use Rattle.std.proofs.Common.{◌<◌, ◌/◌, ◌^◌, [], length, map, All, subst, sym, ap₂, ◌∙◌, arith}
use Rattle.aiger_reader.specs.Numbers.{header_of}
use Rattle.aiger_reader.specs.Numbered.{AreWithin, lit_in, def_in, circuit_from}
use Rattle.aiger_reader.specs.Reading.{rows_of}
use Rattle.aiger_reader.proofs.NumberingLemmas.{outputs_within, gates_within}
use Rattle.aiger_reader.proofs.CircuitLemmas.{places_small, circuit_is}
use Rattle.aiger_reader.proofs.NetlistLemmas.{text_plain}
use Rattle.aiger_reader.proofs.WholeLemmas.{header_limits, sound_lines}
use Rattle.aiger_reader.proofs.whole.known_net.Goals as goal

pub number_gates-requires-clause-within : goal.number_gates-requires-clause-within
number_gates-requires-clause-within c =
    let body = c.args.body.now in
    let all = gates_within (header_of c.args.header []) body.literals body.signals.items c.requires.sound in
    subst (λ s. All (AreWithin s) c.deref-2.result.now) (sym c.deref.ensures.value) (subst (All (AreWithin body.signals.items)) (sym c.deref-2.ensures.value) all)

pub number_gates-requires-clause-small : goal.number_gates-requires-clause-small
number_gates-requires-clause-small c =
    let body = c.args.body.now in
    let header = c.args.header in
    let all = places_small (header_of header []) body.literals body.signals.items c.requires.sound (omega (arith, header.few_inputs, header.few_outputs, header.few_gates)) in
    subst (All (λ place. place < 2 ^ 31)) (sym c.deref.ensures.value) all

pub number_outputs-requires-clause-within : goal.number_outputs-requires-clause-within
number_outputs-requires-clause-within c =
    let body = c.args.body.now in
    let all = outputs_within (header_of c.args.header []) body.literals body.signals.items c.requires.sound in
    subst (λ s. All (λ literal. literal / 2 < length s) c.deref-4.result.now) (sym c.deref-3.ensures.value) (subst (All (λ literal. literal / 2 < length body.signals.items)) (sym c.deref-4.ensures.value) all)

pub number_outputs-requires-clause-small : goal.number_outputs-requires-clause-small
number_outputs-requires-clause-small c =
    let body = c.args.body.now in
    let header = c.args.header in
    let all = places_small (header_of header []) body.literals body.signals.items c.requires.sound (omega (arith, header.few_inputs, header.few_outputs, header.few_gates)) in
    subst (All (λ place. place < 2 ^ 31)) (sym c.deref-3.ensures.value) all

pub new-requires : goal.new-requires
new-requires c =
    let header = c.args.header in
    let h = header_of header [] in
    let body = c.args.body.now in
    let defs = c.from_vec.ensures ∙ (c.in_ok-defs.ensures ∙ ap₂ (λ s xs. map (def_in s) xs) c.deref.ensures.value c.deref-2.ensures.value) in
    let outputs = c.from_vec-2.ensures ∙ (c.in_ok-outputs.ensures ∙ ap₂ (λ s xs. map (lit_in s) xs) c.deref-3.ensures.value c.deref-4.ensures.value) in
    let same = ap₂ (circuit_from header.inputs) defs outputs ∙ circuit_is h body.literals body.signals.items c.requires.text c.requires.sound c.requires.known in
    let plain = text_plain h (rows_of body.literals) (circuit_from header.inputs c.from_vec.result c.from_vec-2.result) c.requires.text (sound_lines h body.literals body.signals.items c.requires.sound) c.requires.known (header_limits header []) same in
    record {
      closed = plain.closed;
      signals = plain.signals;
      outputs = plain.outputs;
    }

pub returns-clause-netlist : goal.returns-clause-netlist
returns-clause-netlist c = λ properties.
    let header = c.args.header in
    let body = c.args.body.now in
    let defs = c.from_vec.ensures ∙ (c.in_ok-defs.ensures ∙ ap₂ (λ s xs. map (def_in s) xs) c.deref.ensures.value c.deref-2.ensures.value) in
    let outputs = c.from_vec-2.ensures ∙ (c.in_ok-outputs.ensures ∙ ap₂ (λ s xs. map (lit_in s) xs) c.deref-3.ensures.value c.deref-4.ensures.value) in
    c.new.ensures ∙ (ap₂ (circuit_from header.inputs) defs outputs ∙ circuit_is (header_of header []) body.literals body.signals.items c.requires.text c.requires.sound c.requires.known)
