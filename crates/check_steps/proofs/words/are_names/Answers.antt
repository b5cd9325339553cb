-- Each test says what it is of.
use Rattle.check_steps.proofs.WordLemmas.{names_tested}
use Rattle.check_steps.proofs.words.are_names.Goals as goal

pub returns : goal.returns
returns c = names_tested _ _ _ _ _ _ _ _ c.is_empty.ensures c.is_empty-2.ensures c.is_empty-3.ensures c.eq.ensures c.eq-2.ensures
