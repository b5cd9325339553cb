-- Each test says what it is of.
use Rattle.check_steps.proofs.WordLemmas.{two_names_tested}
use Rattle.check_steps.proofs.words.are_two_names.Goals as goal

pub returns : goal.returns
returns c = two_names_tested _ _ _ _ _ c.is_empty.ensures c.is_empty-2.ensures c.eq.ensures
