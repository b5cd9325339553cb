-- The first word is cut at the first blank after it.
use Rattle.text_core.proofs.WordLemmas.{words-first, words-no_first}
use Rattle.text_core.proofs.laws.words_from_first_word.Goals as goal

pub returns-clause-none : goal.returns-clause-none
returns-clause-none c = words-no_first

pub returns-clause-next : goal.returns-clause-next
returns-clause-next c = words-first
