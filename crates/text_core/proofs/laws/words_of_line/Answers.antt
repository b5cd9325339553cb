-- Words are parted at blanks alone.
use Rattle.text_core.proofs.WordLemmas.{words-each, words-blank, words-word, words-last}
use Rattle.text_core.proofs.laws.words_of_line.Goals as goal

pub returns-clause-each : goal.returns-clause-each
returns-clause-each c = words-each

pub returns-clause-blank : goal.returns-clause-blank
returns-clause-blank c = λ byte line. words-blank byte line

pub returns-clause-parted : goal.returns-clause-parted
returns-clause-parted c = words-word

pub returns-clause-last : goal.returns-clause-last
returns-clause-last c = words-last
