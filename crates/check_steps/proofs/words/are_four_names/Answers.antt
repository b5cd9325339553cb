-- Each test says what it is of.
use Rattle.check_steps.proofs.WordLemmas.{four_names_tested}
use Rattle.check_steps.proofs.words.are_four_names.Goals as goal

pub returns : goal.returns
returns c = four_names_tested _ _ _ _ _ _ c.are_names.ensures c.are_two_names.ensures
