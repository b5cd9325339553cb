-- The bijections of the one are those of the other.
use Rattle.circuits.proofs.MatchLaws.{functions_from_equal, equal_from_functions}
use Rattle.circuits.proofs.laws.npnp_of_functions.Goals as goal

pub returns : goal.returns
returns c = λ first second f g one two of_first of_second.
    (functions_from_equal first second f g one two of_first of_second, equal_from_functions first second f g of_first of_second)
