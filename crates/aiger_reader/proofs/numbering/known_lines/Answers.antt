-- The lines before the first that reads what isn't there.
use Rattle.std.proofs.Common.{◌≡◌, ◌<◌, ◌/◌, ◌+◌, [], length, All, subst, sym, ap, ap₂, ◌∙◌, arith}
use Rattle.std.specs.List.{prefix_len}
use Rattle.aiger_reader.specs.Numbers.{header_of}
use Rattle.aiger_reader.specs.Bodies.{IsKnownRow}
use Rattle.aiger_reader.specs.Reading.{rows_of}
use Rattle.aiger_reader.specs.Numbered.{AreWithin, has_place, have_places}
use Rattle.aiger_reader.proofs.NumberingLemmas.{outputs_known, output_unknown, gates_known, gate_unknown, outputs_within, gates_within}
use Rattle.aiger_reader.proofs.numbering.known_lines.Goals as goal

pub known_outputs-outputs-requires : goal.known_outputs-outputs-requires
known_outputs-outputs-requires c =
    let body = c.args.body.now in
    let all = outputs_within (header_of c.args.header []) body.literals body.signals.items c.requires in
    subst (λ s. All (λ literal. literal / 2 < length s) c.deref-2.result.now) (sym c.deref.ensures.value) (subst (All (λ literal. literal / 2 < length body.signals.items)) (sym c.deref-2.ensures.value) all)

pub known_gates-requires : goal.known_gates-requires
known_gates-requires c =
    let body = c.args.body.now in
    let all = gates_within (header_of c.args.header []) body.literals body.signals.items c.requires in
    subst (λ s. All (AreWithin s) c.deref-4.result.now) (sym c.deref-3.ensures.value) (subst (All (AreWithin body.signals.items)) (sym c.deref-4.ensures.value) all)

pub returns-then-outputs-header-clause-known : goal.returns-then-outputs-header-clause-known
returns-then-outputs-header-clause-known c = λ k below.
    let body = c.args.body.now in
    let h = header_of c.args.header [] in
    let is = c.known_outputs-outputs.ensures.count ∙ ap₂ (λ s xs. prefix_len (has_place s) xs) c.deref.ensures.value c.deref-2.ensures.value in
    outputs_known h body.literals body.signals.items c.known_outputs-outputs.result c.requires is (omega (arith, c.requires.counts.outputs_read)) k (omega (arith, c.input_lines-inputs.ensures, below))

pub returns-then-outputs-header-clause-unknown : goal.returns-then-outputs-header-clause-unknown
returns-then-outputs-header-clause-unknown c = λ below row.
    let body = c.args.body.now in
    let h = header_of c.args.header [] in
    let is = c.known_outputs-outputs.ensures.count ∙ ap₂ (λ s xs. prefix_len (has_place s) xs) c.deref.ensures.value c.deref-2.ensures.value in
    output_unknown h body.literals body.signals.items c.known_outputs-outputs.result c.requires is (omega (arith, c.requires.counts.outputs_read)) (subst (λ n. IsKnownRow h (rows_of body.literals) (n + c.known_outputs-outputs.result)) c.input_lines-inputs.ensures row)

pub returns-clause-known : goal.returns-clause-known
returns-clause-known c = λ k below.
    let body = c.args.body.now in
    let h = header_of c.args.header [] in
    let n = c.known_outputs-outputs.result in
    let is = c.known_outputs-outputs.ensures.count ∙ ap₂ (λ s xs. prefix_len (has_place s) xs) c.deref.ensures.value c.deref-2.ensures.value in
    let whole : n ≡ length body.literals.outputs.items = omega (arith, c.known_outputs-outputs.ensures.within, c.deref-2.ensures.len, ap length c.deref-2.ensures.value, c.requires.counts.outputs_read) in
    let gates_is = c.known_gates.ensures.count ∙ ap₂ (λ s xs. prefix_len (have_places s) xs) c.deref-3.ensures.value c.deref-4.ensures.value in
    gates_known h body.literals body.signals.items n c.known_gates.result c.requires is whole gates_is (omega (arith, c.known_gates.ensures.within, ap length c.deref-4.ensures.value)) k (omega (arith, c.input_lines-inputs.ensures, below))

pub returns-clause-unknown : goal.returns-clause-unknown
returns-clause-unknown c = λ below row.
    let body = c.args.body.now in
    let h = header_of c.args.header [] in
    let n = c.known_outputs-outputs.result in
    let m = c.known_gates.result in
    let whole : n ≡ length body.literals.outputs.items = omega (arith, c.known_outputs-outputs.ensures.within, ap length c.deref-2.ensures.value, c.requires.counts.outputs_read) in
    let gates_is = c.known_gates.ensures.count ∙ ap₂ (λ s xs. prefix_len (have_places s) xs) c.deref-3.ensures.value c.deref-4.ensures.value in
    gate_unknown h body.literals body.signals.items n m c.requires whole gates_is (omega (arith, c.input_lines-inputs.ensures, below)) (subst (λ i. IsKnownRow h (rows_of body.literals) (i + n + m)) c.input_lines-inputs.ensures row)
