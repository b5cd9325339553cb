-- Both netlists in order compute themselves, so their functions decide.
use Rattle.circuits.specs.Functions.{as_circuit}
use Rattle.circuits.proofs.AsCircuit.{as_circuit-acyclic, as_circuit-computed}
use Rattle.circuits.proofs.MatchLaws.{IfOk-like, functions_from_equal, equal_from_functions}
use Rattle.circuits.proofs.plain.are_npnp_equal.Goals as goal

pub returns : goal.returns
returns c =
    let f = c.args.first.now in
    let g = c.args.second.now in
    let one = c.requires.first_ordered in
    let two = c.requires.second_ordered in
    IfOk-like c.have_npnp_equal_functions.result (equal_from_functions (as_circuit f) (as_circuit g) f g (as_circuit-computed f one) (as_circuit-computed g two)) (functions_from_equal (as_circuit f) (as_circuit g) f g (as_circuit-acyclic f one) (as_circuit-acyclic g two) (as_circuit-computed f one) (as_circuit-computed g two)) c.have_npnp_equal_functions.ensures
