-- The numbers of the clauses, and of the lemmas so far.
use Rattle.std.proofs.Common.{◌≡◌}
use Rattle.ask_core.specs.Renamings.{numbers_of}
use Rattle.ask_core.proofs.base.numbers_of.Given as goal

abbrev pub invariant-loop-lemma : goal.invariant-loop-lemma
invariant-loop-lemma l = l.numbers.items ≡ numbers_of l.ids l.count l.lemma
