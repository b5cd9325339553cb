-- Both netlists in order compute themselves, so their functions decide.
use Rattle.circuits.specs.Functions.{as_circuit}
use Rattle.circuits.proofs.AsCircuit.{as_circuit-acyclic, as_circuit-computed}
use Rattle.circuits.proofs.MatchLaws.{IfOk-like, functions_from_match, match_from_functions}
use Rattle.circuits.proofs.plain.is_match.Goals as goal

pub returns : goal.returns
returns c =
    let f = c.args.first.now in
    let g = c.args.second.now in
    let p = c.args.p.now in
    let q = c.args.q.now in
    let one = c.requires.first_ordered in
    let two = c.requires.second_ordered in
    IfOk-like c.is_match_of_functions.result (match_from_functions (as_circuit f) (as_circuit g) f g p q (as_circuit-computed f one) (as_circuit-computed g two)) (functions_from_match (as_circuit f) (as_circuit g) f g p q (as_circuit-acyclic f one) (as_circuit-acyclic g two) (as_circuit-computed f one) (as_circuit-computed g two)) c.is_match_of_functions.ensures
