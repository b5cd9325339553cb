-- A numeral whose value is not given is too large.
use Rattle.std.proofs.Common.{rules}
use Rattle.text_core.proofs.NumberLemmas.{too_large_exactly}
use Rattle.text_core.proofs.numbers.decimal.Goals as goal

pub returns-clause-too_large : goal.returns-clause-too_large
returns-clause-too_large c = search (rules, too_large_exactly)
