-- What is written of a number is digits, and has its value.
use Rattle.text_core.proofs.NumberLemmas.{number-decimal, IsWord-decimal}
use Rattle.text_core.proofs.laws.number_from_decimal.Goals as goal

pub returns-clause-word : goal.returns-clause-word
returns-clause-word c = IsWord-decimal

pub returns-clause-number : goal.returns-clause-number
returns-clause-number c = number-decimal
