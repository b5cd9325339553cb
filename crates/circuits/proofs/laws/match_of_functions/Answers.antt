-- There and back through the one valuation that fits each circuit.
use Rattle.circuits.proofs.MatchLaws.{functions_from_match, match_from_functions}
use Rattle.circuits.proofs.laws.match_of_functions.Goals as goal

pub returns : goal.returns
returns c = λ first second f g p q one two of_first of_second.
    (functions_from_match first second f g p q one two of_first of_second, match_from_functions first second f g p q of_first of_second)
