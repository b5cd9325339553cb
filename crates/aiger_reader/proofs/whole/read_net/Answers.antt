-- The netlist of the deltas, or the first that is bad.
use Rattle.std.proofs.Common.{◌≡◌, map, ap₂, ◌∙◌, arith}
use Rattle.std.proofs.lemmas.Result.{IfOk-weaker}
use Rattle.net_file.proofs.StopLemmas.{stop_passed}
use Rattle.aiger_reader.specs.Numbered.{circuit_from}
use Rattle.aiger_reader.specs.Assembly.{IsNetOf}
use Rattle.aiger_reader.specs.Bodies.{lit_from}
use Rattle.aiger_reader.specs.Deltas.{and_from}
use Rattle.aiger_reader.proofs.WholeLemmas.{delta_fault, deltas_are, binary_body}
use Rattle.aiger_reader.proofs.whole.read_net.Goals as goal
use borrow.Author.Tests.{not-false}

pub returns-in_err-gates-clause-stop : goal.returns-in_err-gates-clause-stop
returns-in_err-gates-clause-stop c =
    let body = c.args.body.now in
    stop_passed c.read_gates.result _ _ _ _ c.in_err-gates.was c.from_residual.ensures.1 c.read_gates.ensures.stop (delta_fault c.args.input.now c.args.header body.literals body.signals.items body.rest (not-false c.args.header.binary c.if-not-header.false) c.requires.begun c.requires.lines)

pub binary_net-requires : goal.binary_net-requires
binary_net-requires c =
    let body = c.args.body.now in
    let gates = c.in_ok-gates.gates in
    binary_body c.args.input.now c.args.header body.literals body.signals.items body.rest c.read_gates.new.cursor.bytes c.deref.result.now gates.items c.deref-2.result.now (not-false c.args.header.binary c.if-not-header.false) c.requires.begun c.requires.lines (omega (arith, c.in_ok-gates.ensures.count, gates.ok.0)) c.in_ok-gates.ensures.gates c.deref.ensures.value c.deref-2.ensures.value

pub returns-clause-netlist : goal.returns-clause-netlist
returns-clause-netlist c =
    let header = c.args.header in
    let body = c.args.body.now in
    let gates = c.in_ok-gates.gates in
    IfOk-weaker c.binary_net.result (λ net. net ≡ circuit_from header.inputs (map and_from c.deref-2.result.now) (map lit_from c.deref.result.now)) (λ net. IsNetOf c.args.input.now header net c.read_gates.new.cursor.bytes) (λ net same. deltas_are c.args.input.now header body.literals body.signals.items body.rest c.read_gates.new.cursor.bytes net gates.items (not-false c.args.header.binary c.if-not-header.false) c.requires.begun c.requires.lines (omega (arith, c.in_ok-gates.ensures.count, gates.ok.0)) c.in_ok-gates.ensures.gates (same ∙ ap₂ (λ xs ys. circuit_from header.inputs (map and_from xs) (map lit_from ys)) c.deref-2.ensures.value c.deref.ensures.value)) c.binary_net.ensures.netlist
