-- The numbers so far are those of lines with the same clauses.
use Rattle.shared_lemmas.specs.Parts.{AreNoted}
use Rattle.shared_lemmas.proofs.lemmas.note_twins.Given as goal

abbrev pub invariant-loop-place : goal.invariant-loop-place
invariant-loop-place l = AreNoted l.count l.stock l.lemmas l.fn.numbers.items l.numbers.items
