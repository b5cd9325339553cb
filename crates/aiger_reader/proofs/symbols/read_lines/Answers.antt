-- One line more, the comment, a line that adds no name, and the end.
use Rattle.std.proofs.Common.{◌≡◌, length, true, false, refl, sym, ap, ◌∙◌, subst}
use Rattle.text_core.specs.Lines.{lines}
use Rattle.aiger_reader.specs.Symbols.{is_comment, TakesLine}
use Rattle.aiger_reader.proofs.GiveLemmas.{adds_at}
use Rattle.aiger_reader.proofs.LineSteps.{one_more, at_end, at_comment, at_fault}
use Rattle.aiger_reader.proofs.symbols.read_lines.Goals as goal

pub returns-then-opens_comment-clause-symbols : goal.returns-then-opens_comment-clause-symbols
returns-then-opens_comment-clause-symbols c =
    let i = c.loop-line in
    let ports = c.args.ports.now in
    let line = c.in-Some.line in
    let comment : is_comment line.bytes ≡ true = ap is_comment (sym c.bytes.ensures.value) ∙ (sym c.opens_comment.ensures ∙ c.if-opens_comment.true) in
    (i.invariant.way.entries, at_comment (length ports.inputs.items) (length ports.outputs.items) c.args.cursor.now i.cursor line.bytes (lines c.next_line.new.self.bytes) i.ports.inputs.items i.ports.outputs.items i.invariant.way c.in-Some.ensures.next comment, i.invariant.way.ports)

pub loop-line-preserved : goal.loop-line-preserved
loop-line-preserved c =
    let i = c.loop-line in
    let ports = c.args.ports.now in
    let way = i.invariant.way in
    let line = c.in-Some.line in
    let after = c.add_symbol.new.ports in
    let symbol : is_comment line.bytes ≡ false = ap is_comment (sym c.bytes.ensures.value) ∙ (sym c.opens_comment.ensures ∙ c.if-opens_comment.false) in
    let next = subst (λ t. TakesLine t way.entries (i.ports.inputs.items, i.ports.outputs.items) (after.inputs.items, after.outputs.items) line.bytes) c.if-not-branch.false (c.in_ok-add_symbol.ensures.added way.entries way.ports) in
    let adds = adds_at (length ports.inputs.items) (length ports.outputs.items) (length i.ports.inputs.items) (length i.ports.outputs.items) line.bytes way.entries next.0 i.invariant.inputs i.invariant.outputs next.1 in
    record {
      inputs = c.add_symbol.ensures.inputs ∙ i.invariant.inputs;
      outputs = c.add_symbol.ensures.outputs ∙ i.invariant.outputs;
      way = one_more (length ports.inputs.items) (length ports.outputs.items) c.args.cursor.now i.cursor line c.next_line.new.self i.ports.inputs.items i.ports.outputs.items after.inputs.items after.outputs.items next.0 way (sym c.in-Some.ensures.line) c.in-Some.ensures.rest c.in-Some.ensures.next symbol adds next.2;
    }

pub returns-then-not-branch-clause-stop : goal.returns-then-not-branch-clause-stop
returns-then-not-branch-clause-stop c =
    let i = c.loop-line in
    let ports = c.args.ports.now in
    let inputs = length ports.inputs.items in
    let outputs = length ports.outputs.items in
    let way = i.invariant.way in
    let line = c.in-Some.line in
    let after = c.add_symbol.new.ports in
    let symbol : is_comment line.bytes ≡ false = ap is_comment (sym c.bytes.ensures.value) ∙ (sym c.opens_comment.ensures ∙ c.if-opens_comment.false) in
    let bad = subst (λ t. TakesLine t way.entries (i.ports.inputs.items, i.ports.outputs.items) (after.inputs.items, after.outputs.items) line.bytes) c.if-not-branch.true (c.in_ok-add_symbol.ensures.added way.entries way.ports) in
    (refl, at_fault inputs outputs c.at-at.result c.args.cursor.now i.cursor line (lines c.next_line.new.self.bytes) i.ports.inputs.items i.ports.outputs.items way (sym c.in-Some.ensures.line) c.in-Some.ensures.next symbol c.at-at.ensures.value (λ entries adds. bad entries (adds_at (length i.ports.inputs.items) (length i.ports.outputs.items) inputs outputs line.bytes way.entries entries (sym i.invariant.inputs) (sym i.invariant.outputs) adds)))

pub returns-clause-symbols : goal.returns-clause-symbols
returns-clause-symbols c =
    let i = c.loop-line in
    let ports = c.args.ports.now in
    (i.invariant.way.entries, at_end (length ports.inputs.items) (length ports.outputs.items) c.args.cursor.now i.cursor i.ports.inputs.items i.ports.outputs.items i.invariant.way c.in_default.ensures.none, i.invariant.way.ports)
