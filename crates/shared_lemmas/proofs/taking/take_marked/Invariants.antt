-- The lines so far were gone over.
use Rattle.shared_lemmas.specs.Parts.{IsTaking}
use Rattle.shared_lemmas.proofs.taking.take_marked.Given as goal

abbrev pub invariant-loop-place : goal.invariant-loop-place
invariant-loop-place l = IsTaking l.common l.source l.fn.target.items l.target.items l.numbers.items
