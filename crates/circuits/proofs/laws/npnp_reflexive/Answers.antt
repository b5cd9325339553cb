-- Each port goes to itself, plain.
use Rattle.std.proofs.Common.{length}
use Rattle.circuits.proofs.MatchLaws.{unmoved, match-unmoved}
use Rattle.circuits.proofs.laws.npnp_reflexive.Goals as goal

pub returns : goal.returns
returns c = λ circuit acyclic.
    (unmoved circuit.inputs, unmoved (length circuit.outputs), match-unmoved circuit acyclic)
