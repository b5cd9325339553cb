-- The numbers so far are those of lines with the same clauses.
use Rattle.shared_lemmas.specs.Parts.{AreNoted}
use Rattle.shared_lemmas.proofs.keeping.note_back.Given as goal

abbrev pub invariant-loop-own : goal.invariant-loop-own
invariant-loop-own l = AreNoted l.count l.lines l.kept l.fn.numbers.items l.numbers.items
