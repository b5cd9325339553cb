-- The netlist of the lines, or the first variable that no line defines.
use Rattle.std.proofs.Common.{◌≡◌, ℕ, List, []}
use Rattle.std.proofs.lemmas.Result.{IfOk-weaker}
use Rattle.aiger_reader.specs.Numbers.{header_of}
use Rattle.aiger_reader.specs.Bodies.{text_circuit}
use Rattle.aiger_reader.specs.Reading.{rows_of}
use Rattle.aiger_reader.specs.Assembly.{IsNetOf}
use Rattle.aiger_reader.proofs.WholeLemmas.{undefined_fault, text_is}
use Rattle.aiger_reader.proofs.whole.text_net.Goals as goal

pub returns-in-Some-clause-stop : goal.returns-in-Some-clause-stop
returns-in-Some-clause-stop c =
    let body = c.args.body.now in
    undefined_fault c.args.input.now c.args.header body.literals body.signals.items body.rest c.in-Some.at c.requires.text c.requires.begun c.requires.lines c.in-Some.ensures.undefined

pub known_net-requires-clause-known : goal.known_net-requires-clause-known
known_net-requires-clause-known c = c.in_default.ensures.known []

pub returns-clause-netlist : goal.returns-clause-netlist
returns-clause-netlist c =
    let header = c.args.header in
    let body = c.args.body.now in
    IfOk-weaker c.known_net.result (λ net. (properties : List ℕ) → net ≡ text_circuit (header_of header properties) (rows_of body.literals)) (λ net. IsNetOf c.args.input.now header net body.rest.bytes) (λ net same. text_is c.args.input.now header body.literals body.signals.items body.rest net c.requires.text c.requires.begun c.requires.lines c.in_default.ensures.known same) c.known_net.ensures.netlist
