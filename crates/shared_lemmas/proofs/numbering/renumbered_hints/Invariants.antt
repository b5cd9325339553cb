-- The hints so far have their numbers.
use Rattle.std.proofs.Common.{◌≡◌, Some, map, take}
use Rattle.shared_lemmas.specs.Parts.{number_in}
use Rattle.shared_lemmas.proofs.numbering.renumbered_hints.Given as goal

abbrev pub invariant-loop-hint : goal.invariant-loop-hint
invariant-loop-hint l = map (number_in l.common l.numbers) (take l.hint-index l.hints) ≡ map Some l.own
